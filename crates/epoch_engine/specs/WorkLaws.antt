-- Laws of the tests that epochs ask for.
use Rattle.std.specs.Prelude.{◌≡◌, ℕ, ◌+◌, ◌≤◌, List, [], Contains, Some}
use Rattle.std.specs.List.{All}
use Rattle.event_types.specs.Tuple.{TupleView}
use Rattle.semantics.specs.Denotation.{streams_of}
use Rattle.semantics.specs.Histories.{Event}
use Rattle.automaton.specs.Networks.{IsAt, IsNetwork}
use Rattle.automaton.specs.Prefixes.{Prefix, After}
use Rattle.automaton.specs.declared.line.Hop.{Hop}
use Rattle.prefix_merge.specs.Counts.{ListPrefixes}
use Rattle.epoch_laws.specs.BornLines.{BornLine, lines_in}
use Rattle.epoch_laws.specs.Histories.{events_before}
use Rattle.epoch_laws.specs.Instances.{bindings_of}
use Rattle.epoch_laws.specs.Stores.{IsWithin}
use Rattle.epoch_draft.specs.EpochWork.{epoch_work}
use Rattle.epoch_engine.specs.EngineStandsFor.{EngineStandsFor}
use Rattle.epoch_engine.specs.EngineView.{EngineView, stores_in}
use Rattle.epoch_engine.specs.Work.{waiting_over, work, work_with}

-- where no more bindings are at the states than wait there after the events before its time, an epoch asks for no more tests than with all of these
abbrev pub FewerAskForLess : Type 0
FewerAskForLess =
    (states : List Prefix) (lines : List BornLine) (order : List ℕ) (stored : Prefix → List TupleView) (history : List Event) (time : ℕ)
    → ((prefix : Prefix) (hop : Hop) → Contains states (After prefix hop) → IsWithin (stored (After prefix hop)) (waiting_over lines order (events_before time history) (After prefix hop)))
    → work_with states lines order stored history time ≤ work states lines order history time

-- what the two laws below ask of an engine: its edges are those of its states, and no derived stream has open tuples. What a closing says of its tests asks it of no caller
pub record IsConsistent (engine : EngineView) : Type 0 where
  pub network : IsNetwork engine.network
  pub underived : All (λ stream. streams_of engine.opened stream ≡ []) engine.layout.order

-- an engine stands for a history of some lines with the epoch of a time open, and these are its states: the prefixes of the lines, each once
pub record StandsOpen (engine : EngineView) (lines : List BornLine) (states : List Prefix) (history : List Event) (time : ℕ) : Type 0 where
  pub stands : EngineStandsFor engine lines history
  pub is_open : engine.time ≡ Some time
  pub listed : ListPrefixes (lines_in lines) states

-- these are the bindings that an engine stores, by the prefixes of its states
abbrev pub AreStored : EngineView → (Prefix → List TupleView) → Type 0
AreStored engine stored = (number : ℕ) (prefix : Prefix) (hop : Hop) → IsAt engine.network number (After prefix hop) → stored (After prefix hop) ≡ bindings_of (stores_in engine number)

-- whatever an engine stands for, there are such bindings
abbrev pub StoredAreThere : Type 0
StoredAreThere = (engine : EngineView) (lines : List BornLine) (history : List Event) → EngineStandsFor engine lines history → (stored : Prefix → List TupleView) × AreStored engine stored

-- the tests that the closing of an engine's epoch may take
abbrev pub closing_tests : EngineView → ℕ
closing_tests engine = epoch_work engine.network engine.layout (stores_in engine) (streams_of engine.opened)

-- they are no more than the epoch asks for with what the engine stores
abbrev pub StoredAskForAll : Type 0
StoredAskForAll =
    (engine : EngineView) (lines : List BornLine) (states : List Prefix) (history : List Event) (time : ℕ) (stored : Prefix → List TupleView)
    → IsConsistent engine → StandsOpen engine lines states history time → AreStored engine stored → closing_tests engine ≤ work_with states lines engine.layout.order stored history time

-- and no more than it asks for with all that waits
abbrev pub WaitingAskForAll : Type 0
WaitingAskForAll =
    (engine : EngineView) (lines : List BornLine) (states : List Prefix) (history : List Event) (time : ℕ)
    → IsConsistent engine → StandsOpen engine lines states history time → closing_tests engine ≤ work states lines engine.layout.order history time

-- whatever an engine stands for, a count of tests rose by no more than its open epoch asks for: with what it stores, and so with all that waits
pub record RisesByWork (engine : EngineView) (old new : ℕ) : Type 0 where
  pub stored : (lines : List BornLine) (states : List Prefix) (history : List Event) (time : ℕ) (stored : Prefix → List TupleView)
      → StandsOpen engine lines states history time → AreStored engine stored → new ≤ old + work_with states lines engine.layout.order stored history time
  pub waiting : (lines : List BornLine) (states : List Prefix) (history : List Event) (time : ℕ)
      → StandsOpen engine lines states history time → new ≤ old + work states lines engine.layout.order history time
