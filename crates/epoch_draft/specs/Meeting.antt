-- What comes of a tuple of a stream.
use Rattle.std.specs.Prelude.{◌≡◌, ℕ, ◌<◌, ◌≤◌, ◌⊎◌, false, true, List, [], ◌++◌, Contains, length, map, Option, Some, None, slice_get, sum_by}
use Rattle.std.specs.List.{All, flat_map}
use Rattle.std.specs.List.Sorted.{IsPermutation}
use Rattle.event_types.specs.Tuple.{TupleView}
use Rattle.instances.specs.declared.instance.Instance.{Instance}
use Rattle.semantics.specs.Nexts.{is_eligible}
use Rattle.automaton.specs.States.{Net, wait_at}
use Rattle.automaton.specs.declared.wait.Wait.{Wait}
use Rattle.stream_readers.specs.Finding.{waits_on}
use Rattle.stream_readers.specs.Ways.{is_state_looked_up}
use Rattle.epoch_laws.specs.Closing.{Stores}
use Rattle.epoch_draft.specs.Comes.{gets}
use Rattle.epoch_draft.specs.Drafts.{Grows}
use Rattle.epoch_draft.specs.Moves.{Move, moves_from, moves_over}
use Rattle.epoch_draft.specs.Pairs.{met}
use Rattle.epoch_draft.specs.Takes.{take_work, takes_work}
use Rattle.epoch_draft.specs.declared.draft.Draft.{Draft}
use Rattle.epoch_draft.specs.declared.draft.Pair.{Pair}

-- what a tuple makes of the instances at a state, if it waits so
abbrev pub met_by : Option Wait → List Instance → TupleView → List Instance
met_by None store tuple = []
met_by (Some wait) store tuple = met wait store tuple

-- what a tuple makes of the instances at the state with a number
abbrev pub met_at : Net → Stores → TupleView → ℕ → List Instance
met_at net stores tuple number = met_by (wait_at net number) (stores number) tuple

-- the moves of what leaves waiting states so
abbrev pub moves_met : Net → Stores → TupleView → List ℕ → List Move
moves_met net stores tuple numbers = flat_map (λ number. moves_from net number (met_at net stores tuple number)) numbers

-- the draft has besides what a tuple makes of the instances at states with these numbers
abbrev pub GrowsByMet : Net → Stores → TupleView → List ℕ → Draft → Draft → Type 0
GrowsByMet net stores tuple numbers old new = Grows net (moves_met net stores tuple numbers) old new

-- all moves that come of a tuple of a stream
abbrev pub moves_of : Net → Stores → ℕ → TupleView → List Move
moves_of net stores stream tuple = moves_over net (gets net stores stream tuple)

-- all moves that come of these tuples of a stream
abbrev pub moves_of_all : Net → Stores → ℕ → List TupleView → List Move
moves_of_all net stores stream tuples = flat_map (moves_of net stores stream) tuples

-- a waiting state, and the place of a tuple in its stream
abbrev pub pair_of : ℕ → ℕ → ℕ → Pair
pair_of stream place state = record { state = state; stream = stream; place = place }

-- the tuple is eligible for none of the instances at a state
abbrev pub MatchesNone : Net → Stores → TupleView → ℕ → Type 0
MatchesNone net stores tuple number = (wait : Wait) → wait_at net number ≡ Some wait → All (λ instance. is_eligible wait.choose instance.tuple tuple ≡ false) (stores number)

-- the pair is listed, or its tuple is eligible for none of the instances at its state
abbrev pub IsListed : Net → Stores → List Pair → Pair → TupleView → Type 0
IsListed net stores pairs pair tuple = Contains pairs pair ⊎ MatchesNone net stores tuple pair.state

-- the numbers are those of states that wait on a stream and are looked up by the tuple, each once, and the tuple is eligible for none of the instances at the others
pub record FindsWaits (net : Net) (stores : Stores) (stream : ℕ) (tuple : TupleView) (found : List ℕ) : Type 0 where
  pub others : List ℕ
  pub all : IsPermutation (found ++ others) (waits_on net stream)
  pub unmatched : All (MatchesNone net stores tuple) others
  pub looked_up : All (λ number. is_state_looked_up net tuple number ≡ true) found

-- states that were found by a tuple, each once, are listed with its place behind the pairs that were there
pub record Lists (net : Net) (stores : Stores) (stream place : ℕ) (tuple : TupleView) (old new : List Pair) : Type 0 where
  pub found : List ℕ
  pub finds : FindsWaits net stores stream tuple found
  pub are : new ≡ old ++ map (pair_of stream place) found

-- a pair names a stream, a state that waits on it, and the place of one of these tuples
pub record IsPairOf (net : Net) (stream : ℕ) (tuples : List TupleView) (pair : Pair) : Type 0 where
  pub stream_is : pair.stream ≡ stream
  pub waits : Contains (waits_on net stream) pair.state
  pub below : pair.place < length tuples

-- each state that waits on a stream is listed with each of these tuples, or the tuple is eligible for none of the instances there; what is listed takes out by no more tests than these tuples have
pub record ListsAll (net : Net) (stores : Stores) (stream : ℕ) (tuples : List TupleView) (old new : List Pair) : Type 0 where
  pub added : List Pair
  pub are : new ≡ old ++ added
  pub sound : All (IsPairOf net stream tuples) added
  pub listed : (place : ℕ) (tuple : TupleView) → slice_get tuples place ≡ Some tuple
      → (state : ℕ) → Contains (waits_on net stream) state → IsListed net stores added (pair_of stream place state) tuple
  pub takes : takes_work net (λ _. tuples) stores added ≤ sum_by (take_work net stores stream) tuples
