use Rattle.std.proofs.Common.{length}
use Rattle.epoch_draft.proofs.OldestLemmas.{IsOldestBut}
use Rattle.epoch_draft.proofs.watching.oldest_start.Given as goal

-- the oldest is that of the instances so far
abbrev pub invariant-loop-instance : goal.invariant-loop-instance
invariant-loop-instance l = IsOldestBut l.look l.oldest l.beads

abbrev pub decreases-loop-instance : goal.decreases-loop-instance
decreases-loop-instance l = length l.look
