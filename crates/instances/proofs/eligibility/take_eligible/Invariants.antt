use Rattle.std.proofs.Common.{◌≡◌, ◌++◌, ◌+◌, ◌≤◌, IsTrue, Some, length, not, filter, All}
use Rattle.semantics.specs.Nexts.{is_eligible}
use Rattle.scalar_expr.specs.Fits.{AllFit}
use Rattle.instances.specs.Keys.{key_matches, key_of_places}
use Rattle.instances.proofs.eligibility.take_eligible.Given as goal

abbrev pub invariant-loop-instance : goal.invariant-loop-instance
invariant-loop-instance g l = (l.walk.chain.ghost_name ≡ l.initial.walk.chain.ghost_name)
    × (l.walk.passed ++ filter (λ instance. not (is_eligible l.choose instance.tuple l.event)) l.walk.chain.now ≡ filter (λ instance. not (is_eligible l.choose instance.tuple l.event)) l.initial.walk.chain.now)
    × (l.steps + length l.walk.chain.now ≤ l.initial.steps + length l.initial.walk.chain.now)
    × All (λ instance. AllFit l.choose l.event (Some instance.tuple)) l.walk.chain.now
    × All (λ instance. IsTrue (key_matches (key_of_places l.key) l.event instance.tuple)) l.walk.chain.now

abbrev pub decreases-loop-instance : goal.decreases-loop-instance
decreases-loop-instance g l = length l.walk.chain.now
