use Rattle.std.proofs.Common.{length}
use Rattle.epoch_draft.proofs.passing.+pass_made.Given as goal

-- the stages that are left
abbrev pub decreases-pass_made : goal.decreases-pass_made
decreases-pass_made g l = length l.step.now
