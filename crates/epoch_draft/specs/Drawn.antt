-- What is made of an epoch once some of its tuples are met.
use Rattle.std.specs.Prelude.{◌≡◌, ℕ, ◌<◌, List, [], ◌++◌, Contains, length, None, Some, slice_get, slice_index_or}
use Rattle.std.specs.List.{All}
use Rattle.std.specs.List.Sorted.{IsPermutation}
use Rattle.event_types.specs.Tuple.{TupleView}
use Rattle.instances.specs.declared.instance.Instance.{Instance}
use Rattle.semantics.specs.Denotation.{Streams}
use Rattle.automaton.specs.States.{Net, entrance_at, wait_at}
use Rattle.automaton.specs.declared.line.Hop.{Hop}
use Rattle.automaton.specs.declared.network.Entrance.TheVariants.{Waiting}
use Rattle.stream_readers.specs.Finding.{waits_on}
use Rattle.epoch_laws.specs.Closing.{Stores, leaving_state, given_by_ends}
use Rattle.epoch_laws.specs.Epochs.{again, took}
use Rattle.epoch_laws.specs.Instances.{instances_entering}
use Rattle.epoch_draft.specs.Meeting.{IsListed, pair_of}
use Rattle.epoch_draft.specs.declared.draft.Draft.{Draft}
use Rattle.epoch_draft.specs.declared.draft.Pair.{Pair}

-- what comes to a waiting state: the instances that enter it through its hop, and those that go back to it
abbrev pub coming : Net → Stores → Streams → ℕ → ℕ → Hop → List Instance
coming net stores seen number before hop =
    instances_entering hop (leaving_state net seen stores before) ++ again hop.wait.fold (took hop.wait.choose hop.wait.fold (seen hop.wait.stream) (stores number))

-- over the tuples that are met so far each stream has what its ends give, each waiting state the beads of what comes to it, and no other state has beads
pub record Drawn (net : Net) (stores : Stores) (seen : Streams) (draft : Draft) : Type 0 where
  pub made : (stream : ℕ) → IsPermutation (slice_index_or draft.made stream []) (given_by_ends net seen stores stream)
  pub bound : (number before : ℕ) (hop : Hop) → entrance_at net number ≡ Some (Waiting before hop)
      → IsPermutation (slice_index_or draft.beads number []) (coming net stores seen number before hop)
  pub unbound : (number : ℕ) → wait_at net number ≡ None → slice_index_or draft.beads number [] ≡ []

-- the pairs are those of waiting states with tuples that are met, and each that isn't listed is of a tuple that is eligible for none of the instances at its state
pub record Paired (net : Net) (stores : Stores) (seen : Streams) (pairs : List Pair) : Type 0 where
  pub sound : All (λ pair. Contains (waits_on net pair.stream) pair.state × (pair.place < length (seen pair.stream))) pairs
  pub listed : (stream place : ℕ) (tuple : TupleView) → slice_get (seen stream) place ≡ Some tuple
      → (state : ℕ) → Contains (waits_on net stream) state → IsListed net stores pairs (pair_of stream place state) tuple
