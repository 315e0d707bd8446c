-- Laws of engines that stand for a history: they begin so, and offers, closings and purges keep it so.
use Rattle.std.specs.Prelude.{◌≡◌, ℕ, ◌+◌, List, [], ◌∷◌, ◌++◌, Option, Some, None}
use Rattle.std.specs.List.Sorted.{IsPermutation}
use Rattle.event_types.specs.Order.{sorted}
use Rattle.event_types.specs.Tuple.{IsSound}
use Rattle.instances.specs.Births.{began_after}
use Rattle.instances.specs.Bounds.{alive_instances}
use Rattle.instances.specs.declared.instance.Instance.{Instance}
use Rattle.semantics.specs.Births.{streams_after}
use Rattle.semantics.specs.Denotation.{Streams}
use Rattle.semantics.specs.Histories.{Event, heard_on, upto}
use Rattle.semantics.specs.Programs.{Program}
use Rattle.semantics.specs.Results.{results}
use Rattle.automaton.specs.Flow.{flow}
use Rattle.automaton.specs.Networks.{IsAt}
use Rattle.automaton.specs.Prefixes.{Prefix, After}
use Rattle.automaton.specs.States.{Net}
use Rattle.automaton.specs.declared.line.Hop.{Hop}
use Rattle.epoch_laws.specs.BornLines.{BornLine, IsReadAfter}
use Rattle.epoch_laws.specs.Batch.{Agree}
use Rattle.epoch_laws.specs.Closing.{ArePurged, IsEpoch, Stores, leaving_state, stores_after}
use Rattle.epoch_laws.specs.Histories.{streams_over}
use Rattle.epoch_laws.specs.InstanceFlow.{waiting_instances}
use Rattle.epoch_laws.specs.Instances.{bindings_of}
use Rattle.epoch_laws.specs.Standing.{MayFollow, PartsStandFor, closed_part, next_time}
use Rattle.epoch_laws.specs.Stores.{IsWithin}
use Rattle.epoch_laws.specs.StoresStandFor.{Serves}
use Rattle.epoch_laws.specs.Times.{during}

-- without events, an engine with empty stores stands for the empty history
abbrev pub StartStands : Type 0
StartStands = (net : Net) (lines : List BornLine) (order : List ℕ) → PartsStandFor net lines order (λ _. []) None (λ _. []) None []

-- an offered event that may follow comes to the open tuples and to the end of the history
abbrev pub OfferStands : Type 0
OfferStands =
    (net : Net) (lines : List BornLine) (order : List ℕ) (stores : Stores) (open_time : Option ℕ) (tuples more : Streams) (closed_time : Option ℕ) (history : List Event) (event : Event)
    → PartsStandFor net lines order stores open_time tuples closed_time history → IsSound event.tuple → MayFollow open_time closed_time event.tuple.at
    → ((stream : ℕ) → IsPermutation (more stream) (tuples stream ++ heard_on (event ∷ []) stream))
    → PartsStandFor net lines order stores (Some event.tuple.at) more closed_time (history ++ event ∷ [])

-- a closing gives the tuples that the streams have at the open time, and then no epoch is open
abbrev pub CloseStands : Type 0
CloseStands =
    (net : Net) (lines : List BornLine) (order : List ℕ) (stores kept : Stores) (time : ℕ) (tuples news : Streams) (closed_time : Option ℕ) (history : List Event)
    → Serves net lines order → PartsStandFor net lines order stores (Some time) tuples closed_time history
    → IsEpoch net order stores tuples news → ArePurged (time + 1) lines net (stores_after net news stores) kept
    → ((stream : ℕ) → IsPermutation (news stream) (during time (streams_over lines order history stream))) × PartsStandFor net lines order kept None (λ _. []) (Some time) history

-- an epoch that is open is that of the last time of its history, so it has no later events
abbrev pub OpenIsLast : Type 0
OpenIsLast =
    (net : Net) (lines : List BornLine) (order : List ℕ) (stores : Stores) (time : ℕ) (tuples : Streams) (closed_time : Option ℕ) (history : List Event)
    → PartsStandFor net lines order stores (Some time) tuples closed_time history → upto time history ≡ history

-- what leaves a state in the epoch is within what flows out of the state's prefix at the open time; what of it began after the birth of a line that uses the state is what flows over the streams cut at that birth
pub record EpochFlow (lines : List BornLine) (streams : Streams) (time : ℕ) (prefix : Prefix) (leaving : List Instance) : Type 0 where
  pub within : IsWithin (bindings_of leaving) (during time (flow streams prefix))
  pub later : (birth : Option ℕ) → IsReadAfter lines prefix birth → IsPermutation (bindings_of (began_after birth leaving)) (during time (flow (streams_after birth streams) prefix))

-- in an engine's open epoch what leaves each state is such a part of what flows out of the state's prefix
abbrev pub EpochFlows : Type 0
EpochFlows =
    (net : Net) (lines : List BornLine) (order : List ℕ) (stores : Stores) (time : ℕ) (tuples news : Streams) (closed_time : Option ℕ) (history : List Event)
    → Serves net lines order → PartsStandFor net lines order stores (Some time) tuples closed_time history → IsEpoch net order stores tuples news
    → (number : ℕ) (prefix : Prefix) → IsAt net number prefix
    → EpochFlow lines (streams_over lines order history) time prefix (leaving_state net news stores number)

-- these tuples, put in order, are the results of each query whose stream the lines agree on
abbrev pub ClosingIsResults : Type 0
ClosingIsResults =
    (net : Net) (lines : List BornLine) (order : List ℕ) (stores : Stores) (time : ℕ) (tuples news : Streams) (closed_time : Option ℕ) (history : List Event) (program : Program) (stream : ℕ)
    → Serves net lines order → PartsStandFor net lines order stores (Some time) tuples closed_time history
    → IsEpoch net order stores tuples news → Agree lines order program history stream
    → sorted (news stream) ≡ results program history stream time

-- stores that are purged for the next time stand for what they stood for
abbrev pub PurgeStands : Type 0
PurgeStands =
    (net : Net) (lines : List BornLine) (order : List ℕ) (stores kept : Stores) (open_time : Option ℕ) (tuples : Streams) (closed_time : Option ℕ) (history : List Event)
    → PartsStandFor net lines order stores open_time tuples closed_time history → ArePurged (next_time closed_time) lines net stores kept
    → PartsStandFor net lines order kept open_time tuples closed_time history

-- purged whole, also for the birth of a line that uses the state, each store has exactly the waiting instances that are alive and began after the birth
abbrev pub TrimmedIsAlive : Type 0
TrimmedIsAlive =
    (net : Net) (lines : List BornLine) (order : List ℕ) (stores : Stores) (open_time : Option ℕ) (tuples : Streams) (closed_time : Option ℕ) (history : List Event)
    → PartsStandFor net lines order stores open_time tuples closed_time history
    → (number : ℕ) (prefix : Prefix) (hop : Hop) → IsAt net number (After prefix hop) → (birth : Option ℕ) → IsReadAfter lines (After prefix hop) birth
    → IsPermutation (alive_instances (next_time closed_time) hop.wait.choose (began_after birth (stores number)))
    (alive_instances (next_time closed_time) hop.wait.choose (began_after birth (waiting_instances (streams_over lines order (closed_part open_time history)) prefix hop)))
