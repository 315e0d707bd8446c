-- One epoch over the states of a network, where each waiting state has a store of its own.
use Rattle.std.specs.Prelude.{◌≡◌, ℕ, ◌==◌, false, List, [], length, map, Option, Some, None}
use Rattle.std.specs.List.{All, filter, flat_map, range_with_len}
use Rattle.std.specs.List.Sorted.{IsPermutation}
use Rattle.event_types.specs.Tuple.{TupleView}
use Rattle.instances.specs.declared.instance.Instance.{Instance}
use Rattle.semantics.specs.Denotation.{Streams}
use Rattle.automaton.specs.Networks.{IsAt}
use Rattle.automaton.specs.Prefixes.{Prefix, After}
use Rattle.automaton.specs.States.{Net, ends_at, entrance_at}
use Rattle.automaton.specs.declared.line.Hop.{Hop}
use Rattle.automaton.specs.Work.{is_in}
use Rattle.automaton.specs.declared.network.End.{End}
use Rattle.automaton.specs.declared.network.Entrance.{Entrance}
use Rattle.automaton.specs.declared.network.Entrance.TheVariants.{Root, Waiting}
use Rattle.epoch_laws.specs.Epochs.{stepped, took}
use Rattle.epoch_laws.specs.Births.{passing_after}
use Rattle.epoch_laws.specs.BornLines.{BornLine, IsReadAfter}
use Rattle.epoch_laws.specs.Instances.{begins, instances_entering}
use Rattle.epoch_laws.specs.Stores.{Purged}

-- the instances of each waiting state, by its number
abbrev pub Stores : Type 0
Stores = ℕ → List Instance

-- what leaves a state that is entered so, in an epoch: at a root the tuples of its stream, which begin here, at a waiting state what its instances give
abbrev pub leaving_by : Option Entrance → Streams → List Instance → List Instance
leaving_by None news store = []
leaving_by (Some (Root stream)) news store = map begins (news stream)
leaving_by (Some (Waiting before hop)) news store = took hop.wait.choose hop.wait.fold (news hop.wait.stream) store

-- what leaves the state with a number
abbrev pub leaving_state : Net → Streams → Stores → ℕ → List Instance
leaving_state net news stores number = leaving_by (entrance_at net number) news (stores number)

-- the store of a state that is entered so, after an epoch in which these instances left each state
abbrev pub stepped_by : Option Entrance → Streams → (ℕ → List Instance) → List Instance → List Instance
stepped_by None news leaving store = []
stepped_by (Some (Root stream)) news leaving store = []
stepped_by (Some (Waiting before hop)) news leaving store = stepped hop.wait.choose hop.wait.fold (news hop.wait.stream) (instances_entering hop (leaving before)) store

-- the store of each state after the epoch
abbrev pub stores_after : Net → Streams → Stores → Stores
stores_after net news stores number = stepped_by (entrance_at net number) news (leaving_state net news stores) (stores number)

-- what an end gives of the instances that leave its state, after its birth
abbrev pub given_by_end : List Instance → End → List TupleView
given_by_end leaving end = passing_after end.step end.birth leaving

-- what the ends of a stream give in the epoch at one state
abbrev pub given_by_ends_at : Net → Streams → Stores → ℕ → ℕ → List TupleView
given_by_ends_at net news stores stream number = flat_map (given_by_end (leaving_state net news stores number)) (filter (λ end. end.out == stream) (ends_at net number))

-- what they give at all states
abbrev pub given_by_ends : Net → Streams → Stores → ℕ → List TupleView
given_by_ends net news stores stream = flat_map (given_by_ends_at net news stores stream) (range_with_len 0 (length net))

-- `news` has all tuples of an epoch, up to order: those that were heard, and in each derived stream what its ends give
pub record IsEpoch (net : Net) (order : List ℕ) (stores : Stores) (heard news : Streams) : Type 0 where
  pub declared : (stream : ℕ) → is_in order stream ≡ false → IsPermutation (news stream) (heard stream)
  pub derived : All (λ stream. IsPermutation (news stream) (given_by_ends net news stores stream)) order

-- each store was purged for a time and for the births of the lines that use its state, in whole, in part or not at all
abbrev pub ArePurged : ℕ → List BornLine → Net → Stores → Stores → Type 0
ArePurged time lines net stores kept =
    (number : ℕ) (prefix : Prefix) (hop : Hop) → IsAt net number (After prefix hop) → Purged time (IsReadAfter lines (After prefix hop)) hop.wait.choose (stores number) (kept number)
