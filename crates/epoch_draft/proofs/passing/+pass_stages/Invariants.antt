use Rattle.std.proofs.Common.{length}
use Rattle.epoch_draft.proofs.passing.+pass_stages.Given as goal

-- the stages that are left
abbrev pub decreases-pass_stages : goal.decreases-pass_stages
decreases-pass_stages g l = length l.step.now
