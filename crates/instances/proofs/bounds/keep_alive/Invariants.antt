use Rattle.std.proofs.Common.{◌≡◌, ◌++◌, ◌+◌, ◌≤◌, length, All}
use Rattle.instances.specs.Bounds.{alive_instances}
use Rattle.instances.proofs.bounds.keep_alive.Given as goal

abbrev pub invariant-loop-instance : goal.invariant-loop-instance
invariant-loop-instance l = (l.walk.chain.ghost_name ≡ l.initial.walk.chain.ghost_name)
    × (l.walk.passed ++ alive_instances (l.now + 1) l.condition l.walk.chain.now ≡ alive_instances (l.now + 1) l.condition l.initial.walk.chain.now)
    × All (λ instance. l.oldest ≤ instance.tuple.from) l.walk.passed

abbrev pub decreases-loop-instance : goal.decreases-loop-instance
decreases-loop-instance l = length l.walk.chain.now
