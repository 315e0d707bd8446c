-- Laws of engines over the histories for which they stand.
use Rattle.std.specs.Prelude.{◌≡◌, ℕ, All, None, ◌-◌, ◌^◌, List, [], ◌∷◌, ◌++◌, Option, length, map, min}
use Rattle.std.specs.List.Sorted.{IsPermutation}
use Rattle.event_types.specs.Order.{sorted}
use Rattle.event_types.specs.Tuple.{TupleView, IsSound}
use Rattle.instances.specs.Alive.{alive}
use Rattle.semantics.specs.Histories.{Event}
use Rattle.automaton.specs.Networks.{IsAt}
use Rattle.automaton.specs.Prefixes.{Prefix, After}
use Rattle.automaton.specs.States.{Net}
use Rattle.automaton.specs.Waiting.{waiting}
use Rattle.automaton.specs.declared.layout.Layout.{Layout}
use Rattle.automaton.specs.declared.line.Hop.{Hop}
use Rattle.automaton.specs.declared.line.Line.{Line}
use Rattle.epoch_laws.specs.Births.{IsLeastBirth}
use Rattle.epoch_laws.specs.BornLines.{BornLine, IsReadAfter, unborn}
use Rattle.epoch_laws.specs.Histories.{streams_over}
use Rattle.epoch_laws.specs.Standing.{closed_part, last_time, next_time}
use Rattle.epoch_laws.specs.StoresStandFor.{Serves}
use Rattle.epoch_laws.specs.Times.{during}
use Rattle.epoch_engine.specs.Closes.{Closes, KeepsPlan}
use Rattle.epoch_engine.specs.Counts.{CountsAlive, CountsAliveAt, alive_over, stored_in}
use Rattle.epoch_engine.specs.Results.{results_of}
use Rattle.epoch_engine.specs.Offers.{IsHeard, IsLate, IsNotAhead, with_tuple}
use Rattle.epoch_engine.specs.EngineStandsFor.{EngineStandsFor}
use Rattle.epoch_engine.specs.Starts.{IsNew}
use Rattle.epoch_engine.specs.Trims.{Trims}
use Rattle.epoch_engine.specs.EngineView.{EngineView, stores_in}

-- a new engine over lines without births stands for the empty history
abbrev pub NewStands : Type 0
NewStands = (net : Net) (layout : Layout) (lines : List BornLine) (engine : EngineView) → Serves net lines layout.order → All (λ born. born.birth ≡ None) lines → IsNew net layout engine → EngineStandsFor engine lines []

-- an engine that took a tuple stands for the history with that event behind
abbrev pub OfferedStands : Type 0
OfferedStands =
    (engine : EngineView) (lines : List BornLine) (history : List Event) (stream : ℕ) (tuple : TupleView) → EngineStandsFor engine lines history → IsHeard engine.layout stream tuple → IsSound tuple → IsNotAhead engine.time tuple.at
    → ((seen : ℕ) → IsLate engine.time engine.closed_time tuple.at seen → ⊥) → EngineStandsFor (with_tuple engine stream tuple) lines (history ++ record { stream = stream; tuple = tuple } ∷ [])

-- an engine that closed its epoch stands for the same history
abbrev pub ClosedStands : Type 0
ClosedStands = (old new : EngineView) (lines : List BornLine) (history : List Event) (batch : List (ℕ × List TupleView)) → EngineStandsFor old lines history → Closes old new batch → KeepsPlan old new → EngineStandsFor new lines history

-- the batch has, for each printed stream that has some, exactly its tuples over the history that have the time of the epoch, in their order
abbrev pub BatchIsStreams : Type 0
BatchIsStreams =
    (old new : EngineView) (lines : List BornLine) (history : List Event) (batch : List (ℕ × List TupleView)) → EngineStandsFor old lines history → (closes : Closes old new batch)
    → batch ≡ results_of old.layout.outs (λ stream. sorted (during closes.time (streams_over lines old.layout.order history stream)))

-- an engine whose stores were purged stands for the same history, and each store has, up to order, exactly the instances that wait, are alive after the closed part of the history, and began after the least birth of the lines that use its state
pub record TrimmedStands : Type 0 where
  pub stands : (old new : EngineView) (lines : List BornLine) (history : List Event) → EngineStandsFor old lines history → Trims old new → EngineStandsFor new lines history
  pub exact :
      (old new : EngineView) (lines : List BornLine) (history : List Event) → EngineStandsFor old lines history → Trims old new
      → (number : ℕ) (prefix : Prefix) (hop : Hop) → IsAt new.network number (After prefix hop) → (since : Option ℕ) → IsLeastBirth (IsReadAfter lines (After prefix hop)) since
      → IsPermutation (stores_in new number) (alive_over lines old.layout.order (closed_part old.time history) since (After prefix hop))

-- an engine whose stores were purged has as many instances as wait, are alive and began after the least births
abbrev pub TrimmedIsCounted : Type 0
TrimmedIsCounted =
    (old new : EngineView) (lines : List BornLine) (history : List Event) → EngineStandsFor old lines history → Trims old new
    → CountsAlive lines old.layout.order (closed_part old.time history) (min (stored_in new) (2 ^ 64 - 1))

-- of lines without births all are counted that wait and are alive, whenever they began
abbrev pub UnbornAreCounted : Type 0
UnbornAreCounted =
    (lines : List Line) (order : List ℕ) (history : List Event) (prefix : Prefix) (hop : Hop) (count : ℕ) → CountsAliveAt (map unborn lines) order history (After prefix hop) count
    → count ≡ length (alive (next_time (last_time history)) hop.wait.choose (waiting (streams_over (map unborn lines) order history) prefix hop))
