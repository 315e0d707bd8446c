-- The report of a course.
use Rattle.std.specs.Prelude.{ℕ, ◌==◌, Bool, if◌then◌else◌, List, [], ◌∷◌, Option}
use Rattle.std.specs.List.{flat_map}
use Rattle.semantics.specs.Histories.{times}
use Rattle.semantics.specs.Programs.{Program}
use Rattle.semantics.specs.Report.{epoch}
use Rattle.event_csv.specs.Lines.{lines}
use Rattle.courses.specs.declared.refusal.Refusal.{Refusal}
use Rattle.courses.specs.Course.{Course, Hears, Adds, Drops, Moment, after_entry, events_in, start}
use Rattle.courses.specs.Heard.{closed_after, heard_after, refused_after}
use Rattle.courses.specs.QuerySet.{QuerySet}

-- the program at a time: of the queries that are there before the first event of that time
abbrev pub program_at : Moment → Course → ℕ → Program
program_at m [] time = m.set.program
program_at m (Hears event ∷ course) time = if event.tuple.at == time then m.set.program else program_at (after_entry m (Hears event)) course time
program_at m (Adds added ∷ course) time = program_at (after_entry m (Adds added)) course time
program_at m (Drops query ∷ course) time = program_at (after_entry m (Drops query)) course time

-- the lines of an epoch of a course: those of each query that is there then, in the order of the file and then of addition
abbrev pub course_epoch : QuerySet → Course → ℕ → List ℕ
course_epoch set course time = epoch (program_at (start set) course time) (events_in course) time

-- the report of a course: the lines of each of its epochs
abbrev pub course_report : QuerySet → Course → List ℕ
course_report set course = flat_map (course_epoch set course) (times (events_in course))

-- the first refused line of an event text that has ended or not
abbrev pub refused_in : QuerySet → List ℕ → Bool → Option Refusal
refused_in set text ended = refused_after set [] (lines text ended)

-- what is heard of an event text that has ended or not
abbrev pub heard_in : QuerySet → List ℕ → Bool → Course
heard_in set text ended = heard_after set [] (lines text ended)

-- the entries whose epochs an event text closes
abbrev pub closed_in : QuerySet → List ℕ → Bool → Course
closed_in set text ended = closed_after set [] (lines text ended) ended

-- the report of the epochs that an event text closes
abbrev pub report_of_closed : QuerySet → List ℕ → Bool → List ℕ
report_of_closed set text ended = course_report set (closed_in set text ended)
