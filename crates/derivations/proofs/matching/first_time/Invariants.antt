use Rattle.std.proofs.Common.{◌≡◌, take}
use Rattle.derivations.specs.DerivedTuples.{derived_eligible}
use Rattle.derivations.specs.Earliest.{least_at}
use Rattle.derivations.proofs.matching.first_time.Given as goal

-- the least time of the eligible ones of the tuples so far
abbrev pub invariant-loop-place : goal.invariant-loop-place
invariant-loop-place g l = l.first ≡ least_at (derived_eligible l.condition l.binding (take l.place l.found))
