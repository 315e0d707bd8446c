-- The events that the work stands for, and what holds of the work whatever was heard. No public clause cites this module.
use Rattle.std.specs.Prelude.{◌≡◌, ◌<◌, ◌≤◌, ℕ, is_some, List, [], length, Option, None}
use Rattle.std.specs.Option.{option_or}
use Rattle.semantics.specs.Histories.{Event}
use Rattle.semantics.specs.Programs.{Program}
use Rattle.birth_laws.specs.BornChains.{born_lines}
use Rattle.epoch_laws.specs.BornLines.{BornLine}
use Rattle.epoch_engine.specs.Closes.{KeepsPlan}
use Rattle.epoch_engine.specs.Offers.{IsLate, IsNotAhead}
use Rattle.epoch_engine.specs.EngineStandsFor as engines
use Rattle.epoch_engine.specs.EngineView as engine
use Rattle.event_csv.specs.Fed.{Fed, IsPart, line_feeds_so_far}
use Rattle.catalogue.specs.Catalogued.{Catalogued, program_in}
use Rattle.catalogue.specs.Coming.{IsLatest}
use Rattle.catalogue.specs.Standing.{StandsInOrder}
use Rattle.change_laws.specs.AtOne.{AreAtOne}
use Rattle.courses.specs.Course.{Moment}
use Rattle.courses.specs.Heard.{disorder}
use Rattle.courses.specs.QuerySet.{set_in}
use Rattle.session.specs.Fronts.{AreFronts}
use Rattle.session.specs.SessionView.{AreDeclared}
use Rattle.session.specs.declared.work.Work.{Work}

-- the program of a catalogue, whose queries have their births
abbrev pub program_over : Catalogued → Program
program_over c = program_in c

-- its automaton lines, each with the birth of its query
abbrev pub lines_over : Catalogued → List BornLine
lines_over c = born_lines (program_over c)

-- the time that an engine heard last: that of its open epoch, or else the last closed one
abbrev pub seen_by : engine.EngineView → Option ℕ
seen_by now = option_or now.time now.closed_time

-- the moment at which an engine is with the queries of a catalogue
abbrev pub moment_at : Catalogued → engine.EngineView → Moment
moment_at c now = record { set = set_in c; seen = seen_by now; is_open = is_some now.time }

-- the engine stands for the program of a catalogue and for events on streams that it declares
pub record StandsFor (c : Catalogued) (history : List Event) (now : engine.EngineView) : Type 0 where
  pub declared : AreDeclared c history
  pub engine : engines.EngineStandsFor now (lines_over c) history

-- the queries stand in order, the engine and the catalogue are at one, no query was born after the time that is kept, the fronts that are made are those of the streams, and fewer than 65,536 bytes of rows wait to be written
pub record IsAtWork (c : Catalogued) (work : Work) : Type 0 where
  pub in_order : StandsInOrder c
  pub at_one : AreAtOne c work.engine
  pub born : IsLatest work.born c
  pub fronts : AreFronts c.streams work.fronts
  pub few : length work.rows < 65536

-- the open epoch was closed, and the engine stands for the same events
pub record HasClosed (c : Catalogued) (old new : engine.EngineView) : Type 0 where
  pub plan : KeepsPlan old new
  pub none_open : new.time ≡ None
  pub now_closed : new.closed_time ≡ old.time
  pub stands : (history : List Event) → StandsFor c history old → engines.EngineStandsFor new (lines_over c) history

-- no epoch is open any more, and the last time that was heard is closed; the engine stands for the same events
pub record HasShut (c : Catalogued) (old new : engine.EngineView) : Type 0 where
  pub plan : KeepsPlan old new
  pub none_open : new.time ≡ None
  pub now_closed : new.closed_time ≡ seen_by old
  pub stands : (history : List Event) → StandsFor c history old → engines.EngineStandsFor new (lines_over c) history

-- no epoch is open, and the engine and the catalogue, whose queries stand in order, are at one
pub record IsThrough (c : Catalogued) (now : engine.EngineView) : Type 0 where
  pub in_order : StandsInOrder c
  pub at_one : AreAtOne c now
  pub none_open : now.time ≡ None

-- an event of this time isn't late, on whatever line it comes
abbrev pub IsTimely : engine.EngineView → ℕ → Type 0
IsTimely now at = (number : ℕ) → disorder number (is_some now.time) (seen_by now) at ≡ None

-- an event of this time may be offered, and the engine stands for the same events
pub record IsReadyForEvent (c : Catalogued) (at : ℕ) (old new : engine.EngineView) : Type 0 where
  pub plan : KeepsPlan old new
  pub not_ahead : IsNotAhead new.time at
  pub in_time : (seen : ℕ) → IsLate new.time new.closed_time at seen → ⊥
  pub stands : (history : List Event) → StandsFor c history old → engines.EngineStandsFor new (lines_over c) history

-- the work may go on: no rows wait to be written, the bytes are within the limit, as many line feeds at most came, and what is left is part of one line
pub record IsGoing (c : Catalogued) (limit : ℕ) (feed : Fed) (fed : ℕ) (work : Work) : Type 0 where
  pub at_work : IsAtWork c work
  pub none_owed : work.rows ≡ []
  pub within : fed ≤ limit
  pub counted : line_feeds_so_far feed ≤ fed
  pub part : IsPart feed
