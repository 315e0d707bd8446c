use Rattle.std.proofs.Common.{length}
use Rattle.epoch_draft.proofs.spare.Spare.empty.Given as goal

-- each turn takes a tuple out
abbrev pub decreases-loop-tuple : goal.decreases-loop-tuple
decreases-loop-tuple l = length l.tuples
