use Rattle.std.proofs.Common.{◌≡◌, ◌++◌, length}
use Rattle.instances.proofs.contents.add_copies.Given as goal

abbrev pub invariant-loop-instance : goal.invariant-loop-instance
invariant-loop-instance l = l.copies ++ l.look ≡ l.initial.copies ++ l.chain

abbrev pub decreases-loop-instance : goal.decreases-loop-instance
decreases-loop-instance l = length l.look
