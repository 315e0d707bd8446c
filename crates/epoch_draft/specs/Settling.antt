-- What the second half of a closing does to the stores.
use Rattle.std.specs.Prelude.{◌≡◌, ℕ, ◌<◌, ◌==◌, not, if◌then◌else◌, IsTrue, List, [], ◌∷◌, ◌++◌, Contains, length, Option, Some, None, slice_get, slice_index_or}
use Rattle.std.specs.List.{All, filter, flat_map}
use Rattle.std.specs.List.Sorted.{IsPermutation}
use Rattle.event_types.specs.Tuple.{TupleView}
use Rattle.instances.specs.Bounds.{alive_instances}
use Rattle.instances.specs.Keys.{EventFits}
use Rattle.binding_index.specs.KeyParts.{first_key}
use Rattle.binding_index.specs.Stores.{instances_of}
use Rattle.binding_index.specs.declared.store.Store.{Store}
use Rattle.instances.specs.declared.instance.Instance.{Instance}
use Rattle.semantics.specs.Denotation.{Streams}
use Rattle.semantics.specs.Nexts.{is_eligible}
use Rattle.scalar_expr.specs.Fits.{AllFit}
use Rattle.automaton.specs.States.{Net, is_used, wait_at}
use Rattle.automaton.specs.declared.wait.Wait.{Wait}
use Rattle.epoch_laws.specs.Closing.{Stores, stores_after}
use Rattle.epoch_laws.specs.Epochs.{unmatched_after}
use Rattle.epoch_draft.specs.Held.{SameReady, SameShapes, held}
use Rattle.epoch_draft.specs.Takes.{tuple_of}
use Rattle.epoch_draft.specs.declared.draft.Pair.{Pair}

-- the first list, or the second where the first has no items
abbrev pub first_of : List TupleView → List TupleView → List TupleView
first_of [] made = made
first_of (tuple ∷ tuples) made = tuple ∷ tuples

-- the tuples of each stream: the open ones, or else those that were made
abbrev pub tuples_in : List (List TupleView) → List (List TupleView) → Streams
tuples_in opened made stream = first_of (slice_index_or opened stream []) (slice_index_or made stream [])

-- the tuples with which a state is listed
abbrev pub listed_tuples : Streams → List Pair → ℕ → List TupleView
listed_tuples news pairs number = flat_map (λ pair. if pair.state == number then tuple_of news pair else []) pairs

-- the state and the tuple of a pair are there, and the tuple fits the state's condition with each instance there, and its key
pub record PairSuits (net : Net) (news : Streams) (streams : ℕ) (stores : Stores) (pair : Pair) : Type 0 where
  pub used : IsTrue (is_used net pair.state)
  pub stream : pair.stream < streams
  pub place : pair.place < length (news pair.stream)
  pub fits : (wait : Wait) (tuple : TupleView) → wait_at net pair.state ≡ Some wait → slice_get (news pair.stream) pair.place ≡ Some tuple
      → All (λ instance. AllFit wait.choose tuple (Some instance.tuple)) (stores pair.state)
  pub key : (wait : Wait) (tuple : TupleView) → wait_at net pair.state ≡ Some wait → slice_get (news pair.stream) pair.place ≡ Some tuple → EventFits (first_key wait.choose) tuple

-- the instances that a tuple matches were taken out at a state
pub record IsTakenAt (net : Net) (tuple : TupleView) (number : ℕ) (old new : List (Option Store)) : Type 0 where
  pub same : SameShapes old new
  pub taken : (wait : Wait) → wait_at net number ≡ Some wait → held new number ≡ filter (λ instance. not (is_eligible wait.choose instance.tuple tuple)) (held old number)
  pub none : wait_at net number ≡ None → held new number ≡ held old number
  pub others : (other : ℕ) → (other ≡ number → ⊥) → held new other ≡ held old other
  pub ready : SameReady old new

-- the instances that the tuples of these pairs match were taken out
pub record AreTaken (net : Net) (news : Streams) (pairs : List Pair) (old new : List (Option Store)) : Type 0 where
  pub same : SameShapes old new
  pub taken : (number : ℕ) (wait : Wait) → wait_at net number ≡ Some wait → held new number ≡ unmatched_after wait.choose (listed_tuples news pairs number) (held old number)
  pub none : (number : ℕ) → wait_at net number ≡ None → held new number ≡ held old number
  pub ready : SameReady old new

-- the beads of these states were put into their stores, and a store without beads is the same
pub record AreLinked (numbers : List ℕ) (beads : List (List Instance)) (old new : List (Option Store)) : Type 0 where
  pub same : SameShapes old new
  pub ready : SameReady old new
  pub linked : (number : ℕ) → Contains numbers number → (store : Store) → slice_index_or old number None ≡ Some store
      → IsPermutation (held new number) (instances_of store ++ slice_index_or beads number [])
  pub idle : (number : ℕ) → slice_index_or beads number [] ≡ [] → slice_index_or new number None ≡ slice_index_or old number None
  pub others : (number : ℕ) → (Contains numbers number → ⊥) → slice_index_or new number None ≡ slice_index_or old number None

-- each waiting state has the store after the epoch, and all else is the same
pub record AreSettled (net : Net) (news : Streams) (old new : List (Option Store)) : Type 0 where
  pub same : SameShapes old new
  pub settled : (number : ℕ) (wait : Wait) → wait_at net number ≡ Some wait → IsPermutation (held new number) (stores_after net news (held old) number)
  pub others : (number : ℕ) → wait_at net number ≡ None → held new number ≡ held old number

-- each waiting state has of the store after the epoch the instances that are alive at a time, and all else is the same
pub record AreClosed (time : ℕ) (net : Net) (news : Streams) (old new : List (Option Store)) : Type 0 where
  pub same : SameShapes old new
  pub purged : (number : ℕ) (wait : Wait) → wait_at net number ≡ Some wait → IsPermutation (held new number) (alive_instances time wait.choose (stores_after net news (held old) number))
  pub others : (number : ℕ) → wait_at net number ≡ None → held new number ≡ held old number
