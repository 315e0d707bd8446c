-- Laws of queries that come and go beside an engine.
use Rattle.std.specs.Prelude.{◌≡◌, ◌<◌, ℕ, List, [], Option, length}
use Rattle.automaton.specs.NetworkLines.{HasEndings}
use Rattle.automaton.specs.Plain.{numbered}
use Rattle.automaton.specs.States.{Net}
use Rattle.birth_laws.specs.BornChains.{born_lines}
use Rattle.catalogue.specs.declared.adding.Added.{Added}
use Rattle.catalogue.specs.declared.dropping.Dropped.{Dropped}
use Rattle.catalogue.specs.Adding.{AddedQuery}
use Rattle.catalogue.specs.Catalogued.{Catalogued, program_in}
use Rattle.catalogue.specs.Coming.{HasCome, IsLatest, IsTold, coming}
use Rattle.catalogue.specs.Leaving.{IsLeft}
use Rattle.catalogue.specs.Loaded.{IsUnchanged}
use Rattle.catalogue.specs.Standing.{StandsInOrder}
use Rattle.change_laws.specs.AtOne.{AreAtOne}
use Rattle.change_laws.specs.Calls.{ComesToBoth, LeavesBoth, MayBeAdded, MayBeRemoved}
use Rattle.change_laws.specs.Courses.{Course, Monitor, StandsForProgram}
use Rattle.epoch_engine.specs.Closes.{Closes}
use Rattle.epoch_engine.specs.EngineStandsFor.{EngineStandsFor}
use Rattle.epoch_engine.specs.EngineView.{EngineView}
use Rattle.epoch_engine.specs.Results.{results_of}
use Rattle.epoch_engine.specs.Starts.{IsNew}
use Rattle.event_types.specs.Tuple.{TupleView}
use Rattle.semantics.specs.Histories.{Event}
use Rattle.semantics.specs.Results.{results}
use Rattle.splitter.specs.Chains.{lines_of, outs_of}

-- a new engine over the merged lines of a catalogue as it was loaded, and over its layout, is at one with it and stands for its program and no events
pub record NewAreAtOne : Type 0 where
  pub at_one : (c : Catalogued) (net : Net) (engine : EngineView) → StandsInOrder c → IsUnchanged c → HasEndings net (numbered 0 (lines_of (program_in c))) → IsNew net c.layout engine → AreAtOne c engine
  pub stands :
      (c : Catalogued) (net : Net) (engine : EngineView) → StandsInOrder c → IsUnchanged c → HasEndings net (numbered 0 (lines_of (program_in c))) → IsNew net c.layout engine
      → EngineStandsFor engine (born_lines (program_in c)) []

-- no query was born after the last closed time of an engine that stands for the program
abbrev pub LastClosedIsLatest : Type 0
LastClosedIsLatest = (c : Catalogued) (engine : EngineView) (history : List Event) → EngineStandsFor engine (born_lines (program_in c)) history → IsLatest engine.closed_time c

-- what a catalogue tells of a query that came may be added to an engine that was at one with it
abbrev pub ToldMayBeAdded : Type 0
ToldMayBeAdded =
    (added : AddedQuery) (birth : Option ℕ) (told : Added) (old new : Catalogued) (engine : EngineView) → StandsInOrder old → StandsInOrder new → AreAtOne old engine
    → HasCome old added birth new → IsTold old (coming old added birth) new told → MayBeAdded told.lines told.ends told.growth engine

-- what it gives out of a query that left may be removed from it
abbrev pub DroppedMayBeRemoved : Type 0
DroppedMayBeRemoved =
    (number : ℕ) (dropped : Dropped) (old new : Catalogued) (engine : EngineView) → StandsInOrder old → StandsInOrder new → AreAtOne old engine
    → number < length old.order → IsLeft number dropped old new → MayBeRemoved dropped.ends dropped.part engine

-- where a query comes to both, they are at one again, and the engine stands for the program with the query and the same history
pub record ComingStands : Type 0 where
  pub at_one : (added : AddedQuery) (told : Added) (old new : Catalogued) (before after : EngineView) → StandsInOrder old → StandsInOrder new → AreAtOne old before → ComesToBoth added told old new before after → AreAtOne new after
  pub stands :
      (added : AddedQuery) (told : Added) (old new : Catalogued) (before after : EngineView) (history : List Event) → StandsInOrder old → StandsInOrder new → AreAtOne old before → ComesToBoth added told old new before after
      → EngineStandsFor before (born_lines (program_in old)) history → EngineStandsFor after (born_lines (program_in new)) history

-- where one leaves both, they are at one again, and the engine stands for the program without it and the same history
pub record LeavingStands : Type 0 where
  pub at_one : (number : ℕ) (dropped : Dropped) (old new : Catalogued) (before after : EngineView) → StandsInOrder old → StandsInOrder new → AreAtOne old before → LeavesBoth number dropped old new before after → AreAtOne new after
  pub stands :
      (number : ℕ) (dropped : Dropped) (old new : Catalogued) (before after : EngineView) (history : List Event) → StandsInOrder old → StandsInOrder new → AreAtOne old before → LeavesBoth number dropped old new before after
      → EngineStandsFor before (born_lines (program_in old)) history → EngineStandsFor after (born_lines (program_in new)) history

-- whatever happens, the engine stands for the program of the catalogue and the events
abbrev pub CoursesStand : Type 0
CoursesStand = (first last : Monitor) → StandsForProgram first → Course first last → StandsForProgram last

-- and each closing gives the streams of the queries that denote tuples over the events since their births, in print order, each with these
abbrev pub ClosingsGiveResults : Type 0
ClosingsGiveResults =
    (monitor : Monitor) (after : EngineView) (batch : List (ℕ × List TupleView)) → StandsForProgram monitor → (closes : Closes monitor.engine after batch)
    → batch ≡ results_of (outs_of (program_in monitor.catalogue)) (λ stream. results (program_in monitor.catalogue) monitor.events stream closes.time)
