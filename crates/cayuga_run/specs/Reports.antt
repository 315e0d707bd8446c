-- What is heard of an event text to its end, for the queries that are there before its first line.
use Rattle.std.specs.Prelude.{ℕ, List, true}
use Rattle.semantics.specs.Histories.{Event}
use Rattle.semantics.specs.Programs.{Program}
use Rattle.courses.specs.Course.{events_in, set_after}
use Rattle.courses.specs.QuerySet.{QuerySet}
use Rattle.courses.specs.Reports.{course_report, heard_in}

-- the report of all that is heard of an event text
abbrev pub report_of_heard : QuerySet → List ℕ → List ℕ
report_of_heard set text = course_report set (heard_in set text true)

-- the events that are heard of it
abbrev pub events_heard : QuerySet → List ℕ → List Event
events_heard set text = events_in (heard_in set text true)

-- the program of the queries that are there after it
abbrev pub program_behind : QuerySet → List ℕ → Program
program_behind set text = (set_after set (heard_in set text true)).program
