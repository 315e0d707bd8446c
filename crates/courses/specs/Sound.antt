-- Courses whose entries may come one after another.
use Rattle.std.specs.Prelude.{◌≡◌, ⊤, ◌<◌, ℕ, List, [], ◌∷◌, None, Contains}
use Rattle.event_types.specs.Tuple.{IsSound}
use Rattle.semantics.specs.Histories.{Event}
use Rattle.semantics.specs.Kinds.{HasKinds}
use Rattle.semantics.specs.Programs.{Query}
use Rattle.cel_types.specs.SourceLaws.{kinds_in}
use Rattle.catalogue.specs.Adding.{AddedQuery, JudgesAdded, Taken}
use Rattle.courses.specs.ControlLines.{first_reader}
use Rattle.courses.specs.Course.{Course, CourseEntry, Hears, Adds, Drops, Moment, after_entry, start}
use Rattle.courses.specs.Heard.{disorder}
use Rattle.courses.specs.QuerySet.{QuerySet}

-- an event may come: it isn't late, its stream is declared, and its tuple is sound and has the kinds of the stream
pub record MayHear (m : Moment) (event : Event) : Type 0 where
  pub timely : disorder 0 m.is_open m.seen event.tuple.at ≡ None
  pub declared : event.stream < m.set.program.declared
  pub kinds : HasKinds (kinds_in m.set.streams event.stream) event.tuple
  pub sound : IsSound event.tuple

-- a query may be added: some text adds it over the streams that are there, be it one of up to 1,048,576 bytes with line feeds, which no control line could hold; so laws on sound courses say the more
pub record MayAdd (m : Moment) (added : AddedQuery) : Type 0 where
  pub text : List ℕ
  pub taken : JudgesAdded m.set.streams text (Taken added)

-- a query may be dropped: it is there, and none reads it
pub record MayDrop (m : Moment) (query : Query) : Type 0 where
  pub there : Contains m.set.program.queries query
  pub unread : first_reader m.set query.stream ≡ None

-- an entry may come at a moment
abbrev pub MayCome : Moment → CourseEntry → Type 0
MayCome m (Hears event) = MayHear m event
MayCome m (Adds added) = MayAdd m added
MayCome m (Drops query) = MayDrop m query

-- each entry may come after those before it
abbrev pub MayComeInTurn : Moment → Course → Type 0
MayComeInTurn m [] = ⊤
MayComeInTurn m (entry ∷ course) = MayCome m entry × MayComeInTurn (after_entry m entry) course

-- a sound course from a set of queries on
abbrev pub IsSoundCourse : QuerySet → Course → Type 0
IsSoundCourse set course = MayComeInTurn (start set) course
