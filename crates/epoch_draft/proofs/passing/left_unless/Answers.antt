use Rattle.epoch_draft.proofs.FoundLemmas.{none_left}
use Rattle.epoch_draft.proofs.passing.left_unless.Goals as goal

-- nothing is left
pub returns-then-passes : goal.returns-then-passes
returns-then-passes c = none_left c.args.step.now (c.requires c.if-passes.true)
