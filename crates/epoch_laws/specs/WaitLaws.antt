-- Laws of one epoch at one wait. The tuples and the bindings that ever entered are those of all times up to one, which is the epoch's.
use Rattle.std.specs.Prelude.{◌≡◌, ℕ, List, Option}
use Rattle.std.specs.List.{All}
use Rattle.std.specs.List.Sorted.{IsPermutation}
use Rattle.event_types.specs.Tuple.{TupleView}
use Rattle.instances.specs.declared.instance.Instance.{Instance}
use Rattle.semantics.specs.Scalars.{Pr}
use Rattle.automaton.specs.Waiting.{waiting_in}
use Rattle.automaton.specs.Waits.{chosen}
use Rattle.automaton.specs.declared.wait.Turn.{Turn}
use Rattle.epoch_laws.specs.Epochs.{stepped, took}
use Rattle.epoch_laws.specs.Instances.{bindings_of}
use Rattle.epoch_laws.specs.Times.{before, during, IsPast}

-- what leaves the wait in the epoch is what the instances give whose bindings waited before it
abbrev pub WaitGivesInEpoch : Type 0
WaitGivesInEpoch =
    (time : ℕ) (choose : List Pr) (turn : Option Turn) (tuples bindings : List TupleView) → All (IsPast time) tuples → All (IsPast time) bindings
    → (store : List Instance) → bindings_of store ≡ waiting_in choose turn (before time tuples) (before time bindings)
    → during time (chosen choose turn tuples bindings) ≡ bindings_of (took choose turn (during time tuples) store)

-- the bindings that wait after the epoch are those of the instances that waited before it, stepped through it
abbrev pub WaitKeeps : Type 0
WaitKeeps =
    (time : ℕ) (choose : List Pr) (turn : Option Turn) (tuples bindings : List TupleView) → All (IsPast time) tuples → All (IsPast time) bindings
    → (entered store : List Instance) → bindings_of entered ≡ during time bindings → bindings_of store ≡ waiting_in choose turn (before time tuples) (before time bindings)
    → IsPermutation (waiting_in choose turn tuples bindings) (bindings_of (stepped choose turn (during time tuples) entered store))

-- what left it before the epoch doesn't depend on the epoch
abbrev pub WaitEarly : Type 0
WaitEarly =
    (time : ℕ) (choose : List Pr) (turn : Option Turn) (tuples bindings : List TupleView) → All (IsPast time) tuples → All (IsPast time) bindings
    → before time (chosen choose turn tuples bindings) ≡ chosen choose turn (before time tuples) (before time bindings)
