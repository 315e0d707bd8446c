-- Texts to which queries are added.
use Rattle.std.specs.Prelude.{◌≡◌, ℕ, false, List, Contains, Result, Ok, Err}
use Rattle.std.specs.List.{All}
use Rattle.semantics.specs.Histories.{Event, times}
use Rattle.stream_schema.specs.Streams.{Entry}
use Rattle.cel_grammar.specs.Trees.{Statement}
use Rattle.catalogue.specs.Judgement.{Accepts, Judged, program_of}
use Rattle.catalogue.specs.Statements.{is_query}
use Rattle.event_csv.specs.declared.event.Seen.{Seen}
use Rattle.event_csv.specs.declared.fault.LineFault.{LineFault}
use Rattle.event_csv.specs.Event.{event}
use Rattle.independence.specs.Hearing.{AreTheSameEvents, HaveOneName}
use Rattle.independence.specs.Independence.{HasTwin}

-- the others have each of these statements, in any order, and may have more queries and declare more streams
abbrev pub Enlarge : List Statement → List Statement → Type 0
Enlarge statements others = All (Contains others) statements

-- and they declare no stream beside
pub record AddQueries (statements others : List Statement) : Type 0 where
  pub all_stand : Enlarge statements others
  pub no_stream_more : All (λ s. is_query s ≡ false → Contains statements s) others

-- a line is one event, named by its stream, or has one fault
abbrev pub AreReadAlike : List Entry → List Entry → Result Seen LineFault → Result Seen LineFault → Type 0
AreReadAlike streams others (Ok seen) (Ok other) = HaveOneName streams others seen.stream other.stream × (seen.tuple ≡ other.tuple)
AreReadAlike streams others (Err why) (Err other) = why ≡ other
AreReadAlike streams others found other = ⊥

-- each event line is read alike where queries are added
abbrev pub AddedQueriesChangeNoEvent : Type 0
AddedQueriesChangeNoEvent =
    (text other_text : List ℕ) (judged other : Judged) (line : List ℕ) → Accepts text judged → Accepts other_text other → AddQueries judged.statements other.statements
    → AreReadAlike judged.streams other.streams (event judged.streams line) (event other.streams line)

-- the same events have the same detection times
abbrev pub SameEventsHaveSameTimes : Type 0
SameEventsHaveSameTimes = (streams others : List Entry) (history other_history : List Event) → AreTheSameEvents streams others history other_history → times history ≡ times other_history

-- over the same events each old query has the same lines at each time in an enlarged text
abbrev pub AddedQueriesChangeNoLine : Type 0
AddedQueriesChangeNoLine =
    (text other_text : List ℕ) (judged other : Judged) (history other_history : List Event) → Accepts text judged → Accepts other_text other → Enlarge judged.statements other.statements
    → AreTheSameEvents judged.streams other.streams history other_history → All (HasTwin (program_of judged) (program_of other) history other_history) (program_of judged).queries
