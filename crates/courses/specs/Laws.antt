-- Laws of courses and of event texts with control lines.
use Rattle.std.specs.Prelude.{◌≡◌, ◌↔◌, ℕ, ◌<◌, Bool, false, List, [], ◌++◌, length, map, Some}
use Rattle.std.specs.List.{All}
use Rattle.semantics.specs.Histories.{Event}
use Rattle.semantics.specs.Report.{epoch, report}
use Rattle.stream_schema.specs.Streams.{Entry}
use Rattle.catalogue.specs.Adding.{AddedVerdict, JudgesAdded}
use Rattle.event_csv.specs.Control.{is_control}
use Rattle.event_csv.specs.Lines.{lines}
use Rattle.courses.specs.declared.refusal.Refusal.{Refusal}
use Rattle.courses.specs.AddedVerdicts.{verdict_of}
use Rattle.courses.specs.Course.{Course, Hears, events_in, set_after}
use Rattle.courses.specs.EventLines.{closed, heard, readings, readings_here, refused}
use Rattle.courses.specs.QuerySet.{QuerySet}
use Rattle.courses.specs.Reports.{closed_in, course_report, heard_in, refused_in, report_of_closed}

-- the text of an added query is judged by the rules to be just what its verdict is computed to be
abbrev pub VerdictsAreJudged : Type 0
VerdictsAreJudged = (streams : List Entry) (text : List ℕ) (verdict : AddedVerdict) → JudgesAdded streams text verdict ↔ (verdict_of streams text ≡ verdict)

-- the first refused line of a text is that of each text that goes on from it
abbrev pub RefusedLinesStay : Type 0
RefusedLinesStay =
    (set : QuerySet) (text more : List ℕ) (ended : Bool) (refusal : Refusal) → refused_in set text false ≡ Some refusal → refused_in set (text ++ more) ended ≡ Some refusal

-- the report of a text that goes on begins with that of the text
abbrev pub ReportsGrow : Type 0
ReportsGrow = (set : QuerySet) (text more : List ℕ) (ended : Bool) → (rest : List ℕ) × (report_of_closed set (text ++ more) ended ≡ report_of_closed set text false ++ rest)

-- a course without control entries
abbrev pub heard_alone : List Event → Course
heard_alone history = map Hears history

-- a course of events alone is reported as the history that it is
abbrev pub EventsAloneAreAHistory : Type 0
EventsAloneAreAHistory = (set : QuerySet) (history : List Event) → course_report set (heard_alone history) ≡ report set.program history

-- the events of one later detection time add the lines of their epoch, for the queries that are there before them
abbrev pub CourseReportGrowsByEpochs : Type 0
CourseReportGrowsByEpochs =
    (set : QuerySet) (course : Course) (events : List Event) (time : ℕ)
    → All (λ event. event.tuple.at < time) (events_in course) → All (λ event. event.tuple.at ≡ time) events → 0 < length events
    → course_report set (course ++ heard_alone events) ≡ course_report set course ++ epoch (set_after set course).program (events_in course ++ events) time

-- entries that are no events add nothing
abbrev pub ControlEntriesAddNoLine : Type 0
ControlEntriesAddNoLine = (set : QuerySet) (course entries : Course) → events_in entries ≡ [] → course_report set (course ++ entries) ≡ course_report set course

-- no line of an event text begins with >
abbrev pub HasNoControlLine : List ℕ → Bool → Type 0
HasNoControlLine text ended = All (λ line. is_control line.bytes ≡ false) (lines text ended)

-- over an event text without control lines the first refused line, what is heard and what is closed are those of its event lines
abbrev pub EventLinesAreHeardAlone : Type 0
EventLinesAreHeardAlone =
    (set : QuerySet) (text : List ℕ) (ended : Bool) → HasNoControlLine text ended
    → (refused_in set text ended ≡ refused (readings set.streams text ended)) × (heard_in set text ended ≡ heard_alone (heard (readings set.streams text ended)))
    × (closed_in set text ended ≡ heard_alone (closed (readings set.streams text ended) ended))

-- over an event text without control lines each line is read alike, whether control lines are taken or not
abbrev pub EventLinesAreReadAlike : Type 0
EventLinesAreReadAlike = (streams : List Entry) (text : List ℕ) (ended : Bool) → HasNoControlLine text ended → readings_here streams text ended ≡ readings streams text ended
