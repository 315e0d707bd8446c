-- The tests that the closed epochs of a course ask for.
use Rattle.std.specs.Prelude.{ℕ, ◌+◌, ◌≤◌, Bool, false, true, List, ◌++◌, sum_by}
use Rattle.semantics.specs.Histories.{Event, times}
use Rattle.semantics.specs.Programs.{Program}
use Rattle.splitter.specs.Chains.{lines_of, work_order}
use Rattle.birth_laws.specs.BornChains.{born_lines}
use Rattle.prefix_merge.specs.Listed.{states_of}
use Rattle.epoch_engine.specs.Work.{work}
use Rattle.event_csv.specs.Lines.{lines}
use Rattle.courses.specs.Course.{Course, events_in, start}
use Rattle.courses.specs.Heard.{closed_after}
use Rattle.courses.specs.QuerySet.{QuerySet}
use Rattle.courses.specs.Reports.{program_at}
use Rattle.session.specs.Feeds.{within_limit}
use Rattle.session.specs.SessionView.{SessionStandsFor, SessionView}

-- the tests that the epoch of a time asks for, of a program over a history; the states of its network are the prefixes of its lines, each once
abbrev pub epoch_tests : Program → List Event → ℕ → ℕ
epoch_tests program history time = work (states_of (lines_of program)) (born_lines program) (work_order program) history time

-- those of an epoch of a course, of the program that was there before its first event
abbrev pub tests_at : QuerySet → Course → ℕ → ℕ
tests_at set course time = epoch_tests (program_at (start set) course time) (events_in course) time

-- those of all epochs of a course
abbrev pub course_work : QuerySet → Course → ℕ
course_work set course = sum_by (tests_at set course) (times (events_in course))

-- those of the closed epochs of a course and an event text behind it, which has ended or not
abbrev pub work_in : QuerySet → Course → List ℕ → Bool → ℕ
work_in set past text ended = course_work set (closed_after set past (lines text ended) ended)

-- whatever a session stands for, a count of tests rose by no more than is asked for by the epochs that a longer text, which has ended or not, closes beyond those of its text
abbrev pub StaysWithin : SessionView → (List ℕ → List ℕ) → Bool → ℕ → ℕ → Type 0
StaysWithin session longer ended old new =
    (set : QuerySet) (past : Course) (text : List ℕ) → SessionStandsFor session set past text
    → new + work_in set past text false ≤ old + work_in set past (longer text) ended

-- by no more than those ask for that the bytes of a piece within the limit close
abbrev pub FeedsWithin : SessionView → List ℕ → ℕ → ℕ → Type 0
FeedsWithin session piece = StaysWithin session (λ text. within_limit session (text ++ piece)) false

-- by no more than those ask for that the end of the text closes
abbrev pub FinishesWithin : SessionView → ℕ → ℕ → Type 0
FinishesWithin session = StaysWithin session (λ text. text) true
