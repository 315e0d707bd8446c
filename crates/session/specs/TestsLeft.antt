-- The tests that the work on the lines may still take. No public clause cites this module.
use Rattle.std.specs.Prelude.{◌≡◌, ℕ, ◌+◌, ◌≤◌, Bool, false, true, cond, is_some, List, [], ◌∷◌, ◌++◌, Option, Some, None}
use Rattle.semantics.specs.Histories.{Event}
use Rattle.semantics.specs.Programs.{Program}
use Rattle.epoch_engine.specs.EngineView.{EngineView}
use Rattle.event_csv.specs.Fed.{Fed, unread_lines}
use Rattle.event_csv.specs.Lines.{Line}
use Rattle.catalogue.specs.Catalogued.{Catalogued}
use Rattle.courses.specs.ControlLines.{entry_of}
use Rattle.courses.specs.Course.{Moment, events_in}
use Rattle.courses.specs.Heard.{after_line, entries_in, refusal_at}
use Rattle.session.specs.Standing.{StandsFor, moment_at, program_over}
use Rattle.session.specs.Owes.{closes, is_later, open_time}
use Rattle.session.specs.RunWork.{epoch_tests}

-- the tests that an epoch asks for, where one is open and these events were heard
abbrev pub tests_of : Program → List Event → Option ℕ → ℕ
tests_of program history None = 0
tests_of program history (Some time) = epoch_tests program history time

-- those of the epoch that is open at a moment
abbrev pub open_tests : Moment → List Event → ℕ
open_tests m history = tests_of m.set.program history (open_time m)

-- those of its closing, where an event of this time closes it
abbrev pub tests_of_closing : Program → List Event → Option ℕ → ℕ → ℕ
tests_of_closing program history seen at = cond (is_later seen at) (tests_of program history seen) 0

-- the tests of all closings that are still to come of the lines from a moment on, where these events were heard
abbrev pub tests_left : Moment → Bool → List Line → List Event → ℕ
tests_left m ended [] history = cond ended (open_tests m history) 0
tests_left m ended (line ∷ lines) history =
    cond (is_some (refusal_at m line)) 0
    (cond (closes m (entry_of m.set line.bytes)) (open_tests m history) 0 + tests_left (after_line m line) ended lines (history ++ events_in (entries_in (entry_of m.set line.bytes))))

-- whatever events an engine stands for, a count of tests rose by at most so many
abbrev pub RisesBy : Catalogued → EngineView → (List Event → ℕ) → ℕ → ℕ → Type 0
RisesBy c engine many old new = (history : List Event) → StandsFor c history engine → new ≤ old + many history

-- by at most what the open epoch asks for
abbrev pub RisesByOpen : Catalogued → EngineView → ℕ → ℕ → Type 0
RisesByOpen c engine old new = RisesBy c engine (λ history. tests_of (program_over c) history engine.time) old new

-- by at most what it asks for, where an event of this time closes it
abbrev pub RisesByClosing : Catalogued → ℕ → EngineView → ℕ → ℕ → Type 0
RisesByClosing c at engine old new = RisesBy c engine (λ history. tests_of_closing (program_over c) history engine.time at) old new

-- by at most what the closings ask for that are still to come of the lines of a feed, of a text that has ended or not
abbrev pub RisesByLines : Catalogued → Fed → Bool → EngineView → ℕ → ℕ → Type 0
RisesByLines c feed ended engine old new = RisesBy c engine (λ history. tests_left (moment_at c engine) ended (unread_lines feed ended) history) old new

-- the work has gone on to other lines of a text that hasn't ended, and a count of tests rose by at most what is no longer to come
pub record TestsGoOn (lines others : List Line) (m : Moment) (history : List Event) (d : Catalogued) (new : EngineView) (before after : ℕ) : Type 0 where
  pub heard : List Event
  pub stands : StandsFor d heard new
  pub fewer : after + tests_left (moment_at d new) false others heard ≤ before + tests_left m false lines history

-- the same of the lines of a feed, whatever events the engine stands for, where a line was worked on
abbrev pub TestsMoved : Catalogued → Catalogued → Fed → Fed → EngineView → EngineView → ℕ → ℕ → Bool → Type 0
TestsMoved c d feed left engine now before after worked =
    worked ≡ true → (history : List Event) → StandsFor c history engine → TestsGoOn (unread_lines feed false) (unread_lines left false) (moment_at c engine) history d now before after
