-- Laws over the nexts of a binding and the runs from it.
use Rattle.std.specs.Prelude.{◌≡◌, ℕ, ◌<◌, ◌≤◌, length, List}
use Rattle.std.specs.List.{All}
use Rattle.std.specs.List.Sorted.{IsPermutation}
use Rattle.event_types.specs.Tuple.{TupleView, IsSound}
use Rattle.semantics.specs.Scalars.{Pr, Sc}
use Rattle.semantics.specs.Nexts.{nexts}
use Rattle.semantics.specs.Runs.{runs, runs_within}

-- each of the nexts starts after the binding's detection
abbrev pub NextsStartLater : Type 0
NextsStartLater = (condition : List Pr) (binding : TupleView) (tuples : List TupleView) → All (λ tuple. binding.at < tuple.from) (nexts condition binding tuples)

-- the order of the tuples does not matter
abbrev pub NextsOfABag : Type 0
NextsOfABag = (condition : List Pr) (binding : TupleView) (tuples others : List TupleView) → IsPermutation tuples others → IsPermutation (nexts condition binding tuples) (nexts condition binding others)

-- more events than there are tuples make no further run
abbrev pub RunsEnd : Type 0
RunsEnd =
    (choose on : List Pr) (parts : List Sc) (tuples : List TupleView) → All IsSound tuples → (most : ℕ) (binding : TupleView) → length tuples ≤ most → runs_within most choose on parts tuples binding ≡ runs choose on parts tuples binding
