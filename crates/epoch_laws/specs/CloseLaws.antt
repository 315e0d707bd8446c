-- Laws of stores that stand for a history, from its start over each epoch.
use Rattle.std.specs.Prelude.{◌≡◌, ℕ, ◌+◌, ◌≤◌, List, [], ◌∷◌, ◌++◌}
use Rattle.std.specs.List.{All}
use Rattle.std.specs.List.Sorted.{IsPermutation}
use Rattle.event_types.specs.Tuple.{TupleView, IsSound}
use Rattle.semantics.specs.Denotation.{Streams}
use Rattle.semantics.specs.Histories.{Event, heard_on}
use Rattle.semantics.specs.Programs.{with_stream}
use Rattle.automaton.specs.States.{Net}
use Rattle.epoch_laws.specs.BornLines.{BornLine}
use Rattle.epoch_laws.specs.Closing.{ArePurged, IsEpoch, Stores, given_by_ends, stores_after}
use Rattle.epoch_laws.specs.Histories.{streams_over}
use Rattle.epoch_laws.specs.StoresStandFor.{Serves, StoresStandFor}
use Rattle.epoch_laws.specs.Times.{during}

-- empty stores stand for the empty history
abbrev pub StandsAtStart : Type 0
StandsAtStart = (net : Net) (lines : List BornLine) (order : List ℕ) → StoresStandFor net lines order 0 (λ _. []) []

-- purged stores stand for what they stood for
abbrev pub StandsPurged : Type 0
StandsPurged =
    (net : Net) (lines : List BornLine) (order : List ℕ) (time : ℕ) (stores kept : Stores) (history : List Event)
    → StoresStandFor net lines order time stores history → ArePurged time lines net stores kept → StoresStandFor net lines order time kept history

-- one epoch: its tuples are what the streams have at its time, and the stores after it, purged or not, stand for the longer history
abbrev pub StandsClosed : Type 0
StandsClosed =
    (net : Net) (lines : List BornLine) (order : List ℕ) (now time : ℕ) (stores kept : Stores) (past events : List Event) (news : Streams)
    → Serves net lines order → StoresStandFor net lines order now stores past → now ≤ time → All (λ event. IsSound event.tuple × (event.tuple.at ≡ time)) events
    → IsEpoch net order stores (heard_on events) news → ArePurged (time + 1) lines net (stores_after net news stores) kept
    → ((stream : ℕ) → IsPermutation (news stream) (during time (streams_over lines order (past ++ events) stream))) × StoresStandFor net lines order (time + 1) kept (past ++ events)

-- before the first derived stream is made, the tuples of an epoch are those that were heard
abbrev pub EpochStarts : Type 0
EpochStarts = (net : Net) (stores : Stores) (heard news : Streams) → ((stream : ℕ) → IsPermutation (news stream) (heard stream)) → IsEpoch net [] stores heard news

-- one more derived stream is made: what its ends give over the streams so far
abbrev pub EpochGrows : Type 0
EpochGrows =
    (net : Net) (lines : List BornLine) (done : List ℕ) (stream : ℕ) (rest : List ℕ) (stores : Stores) (heard news : Streams) (tuples : List TupleView)
    → Serves net lines (done ++ (stream ∷ rest)) → IsEpoch net done stores heard news → IsPermutation tuples (given_by_ends net news stores stream)
    → IsEpoch net (done ++ (stream ∷ [])) stores heard (with_stream news stream tuples)
