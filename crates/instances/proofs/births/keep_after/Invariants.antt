use Rattle.std.proofs.Common.{◌≡◌, ◌++◌, Some, length}
use Rattle.instances.specs.Births.{began_after}
use Rattle.instances.proofs.births.keep_after.Given as goal

abbrev pub invariant-loop-instance : goal.invariant-loop-instance
invariant-loop-instance l = (l.walk.chain.ghost_name ≡ l.initial.walk.chain.ghost_name)
    × (l.walk.passed ++ began_after (Some l.birth) l.walk.chain.now ≡ began_after (Some l.birth) l.initial.walk.chain.now)

abbrev pub decreases-loop-instance : goal.decreases-loop-instance
decreases-loop-instance l = length l.walk.chain.now
