-- Event texts with control lines, where queries and streams are added.
use Rattle.std.specs.Prelude.{◌≡◌, ℕ, Bool, List, None}
use Rattle.std.specs.List.{All, AllZip}
use Rattle.semantics.specs.Histories.{times}
use Rattle.stream_schema.specs.Streams.{Entry}
use Rattle.catalogue.specs.Judgement.{Accepts, Judged}
use Rattle.courses.specs.Course.{Adds, Course, CourseEntry, Drops, Hears, events_in, start}
use Rattle.courses.specs.QuerySet.{set_of}
use Rattle.courses.specs.Reports.{closed_in, heard_in, program_at, refused_in}
use Rattle.independence.specs.Enlarging.{Enlarge}
use Rattle.independence.specs.Hearing.{AreOneEvent}
use Rattle.independence.specs.Independence.{HasTwin}

-- one event by the name of its stream, queries of one statement that are added, or queries of one name that are dropped
abbrev pub AreOneEntry : List Entry → List Entry → CourseEntry → CourseEntry → Type 0
AreOneEntry streams others (Hears event) (Hears other) = AreOneEvent streams others event other
AreOneEntry streams others (Adds added) (Adds other) = added.statement ≡ other.statement
AreOneEntry streams others (Drops query) (Drops other) = query.name ≡ other.name
AreOneEntry streams others entry other = ⊥

-- the same entries in the same order
abbrev pub AreOneCourse : Judged → Judged → Course → Course → Type 0
AreOneCourse judged other course other_course = AllZip (AreOneEntry judged.streams other.streams) course other_course

-- at a time each query that is there has a query with the same lines in the other course
abbrev pub HaveTwinsAt : Judged → Judged → Course → Course → ℕ → Type 0
HaveTwinsAt judged other course other_course time =
    let program = program_at (start (set_of judged)) course time in
    let other_program = program_at (start (set_of other)) other_course time in
    All (HasTwin program other_program (events_in course) (events_in other_course)) program.queries

-- over an event text both query texts hear the same events, add and drop the same queries, and close the same epochs, in each of which each query that is there with the first has its lines with the second
pub record CourseAlike (judged other : Judged) (events : List ℕ) (ended : Bool) : Type 0 where
  pub heard_are : AreOneCourse judged other (heard_in (set_of judged) events ended) (heard_in (set_of other) events ended)
  pub closed_are : AreOneCourse judged other (closed_in (set_of judged) events ended) (closed_in (set_of other) events ended)
  pub epochs_are : times (events_in (closed_in (set_of judged) events ended)) ≡ times (events_in (closed_in (set_of other) events ended))
  pub lines_are : (time : ℕ) → HaveTwinsAt judged other (closed_in (set_of judged) events ended) (closed_in (set_of other) events ended) time

-- a set of queries enlarged by others gives each query of the smaller set, and each that a control line adds, the same lines, where no line of the event text is refused with either
abbrev pub AddedQueriesChangeNoCourse : Type 0
AddedQueriesChangeNoCourse =
    (text other_text : List ℕ) (judged other : Judged) (events : List ℕ) (ended : Bool) → Accepts text judged → Accepts other_text other → Enlarge judged.statements other.statements
    → refused_in (set_of judged) events ended ≡ None → refused_in (set_of other) events ended ≡ None → CourseAlike judged other events ended
