-- What contracts see of a session, and what it stands for.
use Rattle.std.specs.Prelude.{◌≡◌, ◌<◌, ◌≤◌, ℕ, Bool, true, false, List, [], length, is_some, Option, None}
use Rattle.std.specs.List.{All}
use Rattle.semantics.specs.Histories.{Event}
use Rattle.semantics.specs.Programs.{Program}
use Rattle.semantics.specs.TypedPrograms.{HaveTheirKinds}
use Rattle.splitter.specs.Chains.{work_order}
use Rattle.birth_laws.specs.BornChains.{born_lines}
use Rattle.epoch_laws.specs.Standing.{closed_part}
use Rattle.epoch_engine.specs.Counts.{CountsAlive}
use Rattle.epoch_engine.specs.EngineStandsFor as engines
use Rattle.epoch_engine.specs.Trims.{Trims}
use Rattle.epoch_engine.specs.EngineView as engine
use Rattle.event_csv.specs.Fed.{Fed, HandsOutLines, fed_more, line_feeds_in, line_feeds_so_far, unfed}
use Rattle.event_csv.specs.Lines.{lines}
use Rattle.cel_types.specs.SourceLaws.{kinds_in}
use Rattle.catalogue.specs.Catalogued as catalogues
use Rattle.catalogue.specs.Standing.{IsLayoutOver}
use Rattle.change_laws.specs.AtOne.{AreAtOne}
use Rattle.courses.specs.declared.refusal.Refusal.{Refusal}
use Rattle.courses.specs.Course.{Course, Moment, after, events_in, set_after, start}
use Rattle.courses.specs.Heard.{closed_after, heard_after, refused_after}
use Rattle.courses.specs.QuerySet.{QuerySet, set_in}
use Rattle.courses.specs.Reports.{course_report}
use Rattle.courses.specs.Sound.{IsSoundCourse}

-- a session: its queries, its engine, the most bytes of an event text, its feed, the number of bytes that it was fed, and whether it has ended
pub record SessionView : Type 0 where
  pub catalogue : catalogues.Catalogued
  pub engine : engine.EngineView
  pub limit : ℕ
  pub feed : Fed
  pub fed : ℕ
  pub ended : Bool

-- the program of the queries that are there, with their births
abbrev pub program_in : SessionView → Program
program_in session = catalogues.program_in session.catalogue

-- the first refused line of an event text that comes after a course, where the text has ended or not
abbrev pub refused_of : QuerySet → Course → List ℕ → Bool → Option Refusal
refused_of set past text ended = refused_after set past (lines text ended)

-- what was heard: the course, and behind it the entries of the text
abbrev pub heard_of : QuerySet → Course → List ℕ → Bool → Course
heard_of set past text ended = heard_after set past (lines text ended)

-- the moment after a course that begins with a set of queries
abbrev pub moment_of : QuerySet → Course → Moment
moment_of set course = after (start set) course

-- the report of the closed epochs of a course and an event text behind it, which has ended or not
abbrev pub report_of : QuerySet → Course → List ℕ → Bool → List ℕ
report_of set past text ended = course_report set (closed_after set past (lines text ended) ended)

-- each event is on a stream that the catalogue declares, and has the kinds of its stream
abbrev pub AreDeclared : catalogues.Catalogued → List Event → Type 0
AreDeclared c history = All (λ event. event.stream < c.declared) history × HaveTheirKinds (kinds_in c.streams) history

-- a feed has given the lines that a text has so far, has counted its line feeds, and holds none of them; so the lines that it gives with more bytes are those of the longer text
pub record HasGiven (text : List ℕ) (feed : Fed) : Type 0 where
  pub gives : HandsOutLines (lines text false) (fed_more unfed text) feed
  pub line_feeds : line_feeds_so_far feed ≡ line_feeds_in text
  pub none_held : line_feeds_in feed.rest ≡ 0

-- the engine of a session has a layout of its queries, and stands for a history over the merged network of their lines, each with the birth of its query
pub record WorksFor (session : SessionView) (history : List Event) : Type 0 where
  pub layout : IsLayoutOver session.catalogue.streams (program_in session) session.engine.layout
  pub engine : engines.EngineStandsFor session.engine (born_lines (program_in session)) history

-- a session has heard a course: its catalogue holds the queries that are there then, its engine is at one with it and works for the course's events, which are on declared streams, and an epoch is open exactly where the course's last entry is an event
pub record HasHeard (session : SessionView) (set : QuerySet) (course : Course) : Type 0 where
  pub holds : set_in session.catalogue ≡ set_after set course
  pub at_one : AreAtOne session.catalogue session.engine
  pub declared : AreDeclared session.catalogue (events_in course)
  pub works : WorksFor session (events_in course)
  pub opened : is_some session.engine.time ≡ (moment_of set course).is_open

-- a session stands for a sound course from a set of queries on, and for the bytes of an event text behind it: the session hasn't ended, has counted the bytes, and they are within the limit; no line of them is refused; it has heard the course and the entries of the bytes; and its feed has given the lines of the bytes
pub record SessionStandsFor (session : SessionView) (set : QuerySet) (past : Course) (text : List ℕ) : Type 0 where
  pub going : session.ended ≡ false
  pub within : length text ≤ session.limit
  pub sound : IsSoundCourse set past
  pub none_refused : refused_of set past text false ≡ None
  pub heard : HasHeard session set (heard_of set past text false)
  pub counted : session.fed ≡ length text
  pub feed : HasGiven text session.feed

-- whatever sound course leads to the queries of a catalogue, where an engine stands for its events, and has an epoch open exactly where its last entry is an event, a session stands for it and for no text behind it
abbrev pub StandsForPast : catalogues.Catalogued → engine.EngineView → SessionView → Type 0
StandsForPast c over session =
    (set : QuerySet) (past : Course) → IsSoundCourse set past → set_in c ≡ set_after set past
    → engines.EngineStandsFor over (born_lines (catalogues.program_in c)) (events_in past) → is_some over.time ≡ (moment_of set past).is_open → SessionStandsFor session set past []

-- the session has the queries that are there after all that was heard of the whole text, and its engine works for this, with no epoch open
pub record HasFinished (session : SessionView) (set : QuerySet) (past : Course) (text : List ℕ) : Type 0 where
  pub holds : set_in session.catalogue ≡ set_after set (heard_of set past text true)
  pub at_one : AreAtOne session.catalogue session.engine
  pub works : WorksFor session (events_in (heard_of set past text true))
  pub none_open : session.engine.time ≡ None

-- the stores of the engine were purged, and all else is the same
pub record TrimsEngine (old new : SessionView) : Type 0 where
  pub engine : Trims old.engine new.engine
  pub catalogue : new.catalogue ≡ old.catalogue
  pub limit : new.limit ≡ old.limit
  pub feed : new.feed ≡ old.feed
  pub fed : new.fed ≡ old.fed
  pub ended : new.ended ≡ old.ended

-- the number of bindings that wait after the closed epochs of what the session works for
abbrev pub CountsWaiting : SessionView → ℕ → Type 0
CountsWaiting session count =
    (history : List Event) → WorksFor session history → CountsAlive (born_lines (program_in session)) (work_order (program_in session)) (closed_part session.engine.time history) count
