use Rattle.std.proofs.Common.{◌≡◌, ◌+◌, length}
use Rattle.instances.proofs.contents.count_of.Given as goal

abbrev pub invariant-loop-instance : goal.invariant-loop-instance
invariant-loop-instance l = l.count + length l.look ≡ length l.chain

abbrev pub decreases-loop-instance : goal.decreases-loop-instance
decreases-loop-instance l = length l.look
