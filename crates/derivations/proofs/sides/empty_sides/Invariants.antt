use Rattle.std.proofs.Common.{◌≡◌, [], length, List}
use Rattle.std.specs.List.{All}
use Rattle.derivations.specs.DerivedTuples.{DerivedTuple}
use Rattle.derivations.proofs.sides.empty_sides.Given as goal

-- there are as many as were counted, each without a tuple
abbrev pub invariant-loop : goal.invariant-loop
invariant-loop l = (length l.sides ≡ l.counter) × All (λ (side : List DerivedTuple). side ≡ []) l.sides
