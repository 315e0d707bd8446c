-- What a line of an event text says over the queries that are there: an entry of a course, or the line's first fault.
use Rattle.std.specs.Prelude.{ℕ, List, Option, Some, None, Result, Ok, Err, find, if◌then◌else◌}
use Rattle.std.specs.Str.{bytes_eq}
use Rattle.cel_lexer.specs.Names.{is_name}
use Rattle.semantics.specs.Programs.{Query}
use Rattle.event_csv.specs.Control.{Asked, control_of, is_control}
use Rattle.event_csv.specs.Event.{event}
use Rattle.event_csv.specs.Lines.{is_long}
use Rattle.event_csv.specs.declared.control.ControlError.{ControlError}
use Rattle.event_csv.specs.declared.control.ControlError.TheVariants as error
use Rattle.event_csv.specs.declared.event.Seen.{Seen}
use Rattle.event_csv.specs.declared.fault.LineFault.{LineFault}
use Rattle.event_csv.specs.declared.fault.LineFault.TheVariants as line
use Rattle.catalogue.specs.Adding.{AddedVerdict, Taken, NotTaken}
use Rattle.catalogue.specs.Counting.{reads}
use Rattle.courses.specs.declared.fault.ControlFault.{ControlFault}
use Rattle.courses.specs.declared.fault.ControlFault.TheVariants as fault
unfoldable pub use Rattle.courses.specs.AddedVerdicts.{verdict_of}
use Rattle.courses.specs.Course.{CourseEntry, Hears, Adds, Drops}
use Rattle.courses.specs.QuerySet.{QuerySet}

-- why a line says no entry: the fault of an event line, or that of a control line
pub data EntryFault : Type 0 where
  OfLine : LineFault → EntryFault
  OfControl : ControlFault → EntryFault

-- an added query that is taken is an entry; a fault of its text is one of the control line
abbrev pub added_entry : AddedVerdict → Result CourseEntry EntryFault
added_entry (Taken query) = Ok (Adds query)
added_entry (NotTaken line why) = Err (OfControl (fault.Query why))

-- the query of a name that is there
abbrev pub query_named : QuerySet → List ℕ → Option Query
query_named set name = find (λ query. bytes_eq query.name name) set.program.queries

-- the first query in print order that reads the stream
abbrev pub first_reader : QuerySet → ℕ → Option Query
first_reader set stream = find (λ query. reads stream query.expr) set.program.queries

-- a query that no other reads may be dropped
abbrev pub dropped_unless_read : Query → Option Query → Result CourseEntry EntryFault
dropped_unless_read query None = Ok (Drops query)
dropped_unless_read query (Some reader) = Err (OfControl (fault.InUse query.name reader.name))

-- a query that is there may be dropped, unless another reads it
abbrev pub dropped_entry : QuerySet → List ℕ → Option Query → Result CourseEntry EntryFault
dropped_entry set name None = Err (OfControl (fault.UnknownQuery name))
dropped_entry set name (Some query) = dropped_unless_read query (first_reader set query.stream)

-- what a control line says by what it asks for; behind `>DROP ` stands one name, or the line has no form
abbrev pub control_entry : QuerySet → Result Asked ControlError → Result CourseEntry EntryFault
control_entry set (Ok (Asked.Adding text)) = added_entry (verdict_of set.streams text)
control_entry set (Ok (Asked.Removing name)) = if is_name name then dropped_entry set name (query_named set name) else Err (OfControl fault.BadForm)
control_entry set (Err error.NotUtf8) = Err (OfLine line.NotUtf8)
control_entry set (Err error.BadForm) = Err (OfControl fault.BadForm)

-- what an event line says
abbrev pub event_entry : Result Seen LineFault → Result CourseEntry EntryFault
event_entry (Ok seen) = Ok (Hears (record { stream = seen.stream; tuple = seen.tuple }))
event_entry (Err why) = Err (OfLine why)

-- what a line says: one that is too long has that fault, one that begins with > is a control line, and any other an event line
abbrev pub entry_of : QuerySet → List ℕ → Result CourseEntry EntryFault
entry_of set bytes =
    if is_long bytes then Err (OfLine line.LineTooLong)
    else if is_control bytes then control_entry set (control_of bytes) else event_entry (event set.streams bytes)
