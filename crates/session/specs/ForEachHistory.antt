-- What the work does, whatever events its engine stands for. No public clause cites this module.
use Rattle.std.specs.Prelude.{◌≡◌, ℕ, Bool, false, true, List, [], ◌∷◌, ◌++◌, Ok, Err, Result}
use Rattle.cay_host.specs.Output.{Wrote}
use Rattle.cay_host.specs.Told.{Told}
use Rattle.semantics.specs.Histories.{Event}
use Rattle.catalogue.specs.Catalogued.{Catalogued}
use Rattle.epoch_engine.specs.EngineView as engine
use Rattle.event_csv.specs.Fed.{Fed, unread_lines}
use Rattle.event_csv.specs.Lines.{Line}
use Rattle.courses.specs.ControlLines.{entry_of}
use Rattle.courses.specs.Course.{CourseEntry, Moment, after, events_in}
use Rattle.courses.specs.Heard.{heard_from}
use Rattle.courses.specs.QuerySet.{set_in}
use Rattle.session.specs.declared.fault.SessionFault.{SessionFault}
use Rattle.session.specs.declared.work.Work.{Work}
use Rattle.session.specs.Standing.{StandsFor, moment_at, program_over}
use Rattle.session.specs.Owes.{AdvancesPast, FailsBy, GoesOn, Owes, StoppedBy, Stops, closing, epoch_rows, stage_at}

-- the rows of the open epoch were put behind those that aren't written yet
abbrev pub PutsOpenRows : Catalogued → Work → Work → Type 0
PutsOpenRows c old new = (history : List Event) → StandsFor c history old.engine → new.rows ≡ old.rows ++ epoch_rows (program_over c) history old.engine.time

-- the rows that an event of this time closes were put behind the others, and a front of all was written, whatever rows follow
abbrev pub OwesClosing : Catalogued → ℕ → Work → Work → Told → Told → Type 0
OwesClosing c at old new before after =
    (history : List Event) → StandsFor c history old.engine
    → (rest : List ℕ) → Owes (old.rows ++ (closing (program_over c) history old.engine.time at ++ rest)) (new.rows ++ rest) before after

-- why the rows, and behind them those that an event of this time closes, weren't all written
abbrev pub FailsInClosing : Catalogued → ℕ → Work → Told → Told → SessionFault → Type 0
FailsInClosing c at work before after fault =
    (history : List Event) → StandsFor c history work.engine → FailsBy (work.rows ++ closing (program_over c) history work.engine.time at) before after fault

-- the rows of the open epoch were put behind the others, and a front of all was written, whatever rows follow
abbrev pub OwesOpen : Catalogued → Work → Work → Told → Told → Type 0
OwesOpen c old new before after =
    (history : List Event) → StandsFor c history old.engine
    → (rest : List ℕ) → Owes (old.rows ++ (epoch_rows (program_over c) history old.engine.time ++ rest)) (new.rows ++ rest) before after

-- why the rows, and behind them those of the open epoch, weren't all written
abbrev pub FailsAtOpen : Catalogued → Work → Told → Told → SessionFault → Type 0
FailsAtOpen c work before after fault =
    (history : List Event) → StandsFor c history work.engine → FailsBy (work.rows ++ epoch_rows (program_over c) history work.engine.time) before after fault

-- an entry was heard too, whatever lines follow its line
abbrev pub TakesEntry : Catalogued → Catalogued → CourseEntry → Work → Work → Told → Told → Type 0
TakesEntry c d entry old new before after = (history : List Event) → StandsFor c history old.engine → AdvancesPast c d entry history old new before after

-- why the work ended at the line of an entry, whatever lines follow
abbrev pub StopsAtEntry : Catalogued → ℕ → CourseEntry → Work → Told → Told → SessionFault → Type 0
StopsAtEntry c number entry work before after fault =
    (ended : Bool) (line : Line) (lines : List Line) (history : List Event) → line.number ≡ number → entry_of (set_in c) line.bytes ≡ Ok entry → StandsFor c history work.engine
    → Stops ended (line ∷ lines) (stage_at c work history) before after fault

-- how the work on the lines of a feed ended, of a text that has ended or not
abbrev pub EndsOver : Catalogued → Fed → Bool → Work → Told → Told → Result (Unit {0}) SessionFault → Type 0
EndsOver c feed ended work before after result = (history : List Event) → StandsFor c history work.engine → StoppedBy ended (unread_lines feed ended) (stage_at c work history) before after result

-- all rows were written, or why not
abbrev pub WritesAll : List ℕ → Told → Told → Result (Unit {0}) SessionFault → Type 0
WritesAll rows before after (Ok done) = Wrote rows before after
WritesAll rows before after (Err fault) = FailsBy rows before after fault

-- the rows, and behind them those of the open epoch, were all written, or why not
abbrev pub WritesOpen : Catalogued → Work → Told → Told → Result (Unit {0}) SessionFault → Type 0
WritesOpen c work before after result =
    (history : List Event) → StandsFor c history work.engine → WritesAll (work.rows ++ epoch_rows (program_over c) history work.engine.time) before after result

-- why it ended at one of them, of a text that hasn't ended
abbrev pub StopsOver : Catalogued → Fed → Work → Told → Told → SessionFault → Type 0
StopsOver c feed work before after fault = (history : List Event) → StandsFor c history work.engine → Stops false (unread_lines feed false) (stage_at c work history) before after fault

-- the work has gone on to the end of the lines of a feed, of a text that hasn't ended
abbrev pub GoesThrough : Catalogued → Fed → Work → Catalogued → Work → Told → Told → Type 0
GoesThrough c feed old d new before after =
    (history : List Event) → StandsFor c history old.engine → GoesOn (unread_lines feed false) [] (stage_at c old history) d new before after

-- all lines from a moment on were heard, behind these events: the engine stands for their events too, and is at the moment then
pub record HearsAll (lines : List Line) (m : Moment) (history : List Event) (d : Catalogued) (now : engine.EngineView) : Type 0 where
  pub stands : StandsFor d (history ++ events_in (heard_from m lines)) now
  pub moment : after m (heard_from m lines) ≡ moment_at d now

-- the lines of a feed were heard
abbrev pub HearsLines : Catalogued → Fed → Work → Catalogued → Work → Type 0
HearsLines c feed old d new =
    (history : List Event) → StandsFor c history old.engine → HearsAll (unread_lines feed false) (moment_at c old.engine) history d new.engine

-- all lines from a moment on were heard, behind these events, and the text has ended: the engine stands for their events too, and the queries are those that are there then
pub record HearsToEnd (lines : List Line) (m : Moment) (history : List Event) (d : Catalogued) (now : engine.EngineView) : Type 0 where
  pub stands : StandsFor d (history ++ events_in (heard_from m lines)) now
  pub set : (after m (heard_from m lines)).set ≡ set_in d

-- what is left of a text that ends here was heard
abbrev pub HearsRest : Catalogued → Fed → Work → Catalogued → Work → Type 0
HearsRest c feed old d new =
    (history : List Event) → StandsFor c history old.engine → HearsToEnd (unread_lines feed true) (moment_at c old.engine) history d new.engine
