-- Courses: events, between which queries are added and dropped.
use Rattle.std.specs.Prelude.{ℕ, Bool, true, false, List, [], ◌∷◌, Option, Some, None}
use Rattle.semantics.specs.Histories.{Event}
use Rattle.semantics.specs.Programs.{Query}
use Rattle.catalogue.specs.Adding.{AddedQuery}
use Rattle.courses.specs.QuerySet.{QuerySet, with_added, without}

-- an entry of a course: an event, a query that is added, or one that is dropped
pub data CourseEntry : Type 0 where
  Hears : Event → CourseEntry
  Adds : AddedQuery → CourseEntry
  Drops : Query → CourseEntry

-- entries in their order
abbrev pub Course : Type 0
Course = List CourseEntry

-- the events of an entry
abbrev pub events_at : CourseEntry → List Event
events_at (Hears event) = event ∷ []
events_at (Adds added) = []
events_at (Drops query) = []

-- the history of a course: its events
abbrev pub events_in : Course → List Event
events_in [] = []
events_in (Hears event ∷ course) = event ∷ events_in course
events_in (Adds added ∷ course) = events_in course
events_in (Drops query ∷ course) = events_in course

-- a moment of a course: the queries that are there, the detection time of the last event, if there was one, and whether its epoch is open
pub record Moment : Type 0 where
  pub set : QuerySet
  pub seen : Option ℕ
  pub is_open : Bool

-- the moment before the first entry
abbrev pub start : QuerySet → Moment
start set = record { set = set; seen = None; is_open = false }

-- the moment after an entry: an event's epoch is open; a query that is added has the time of the last event as its birth, and stands behind the others; an entry that is no event leaves no epoch open
abbrev pub after_entry : Moment → CourseEntry → Moment
after_entry m (Hears event) = record { set = m.set; seen = Some event.tuple.at; is_open = true }
after_entry m (Adds added) = record { set = with_added m.set added m.seen; seen = m.seen; is_open = false }
after_entry m (Drops query) = record { set = without m.set query; seen = m.seen; is_open = false }

-- the moment after the entries of a course
abbrev pub after : Moment → Course → Moment
after m [] = m
after m (entry ∷ course) = after (after_entry m entry) course

-- the queries that are there after a course
abbrev pub set_after : QuerySet → Course → QuerySet
set_after set course = (after (start set) course).set
