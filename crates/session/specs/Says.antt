-- What comes next of an event text. No public clause cites this module.
use Rattle.std.specs.Prelude.{◌≡◌, ◌<◌, ⊤, ℕ, Bool, true, List, [], ◌∷◌, length, Ok, Err, Result}
use Rattle.semantics.specs.Histories.{Event}
use Rattle.event_csv.specs.declared.event.Seen.{Seen}
use Rattle.event_csv.specs.Fed.{Fed, IsPart, unread_lines}
use Rattle.event_csv.specs.Lines.{Line}
use Rattle.stream_schema.specs.Streams.{Entry}
use Rattle.catalogue.specs.Catalogued.{Catalogued, query_in}
use Rattle.catalogue.specs.Leaving.{IsUnread}
use Rattle.catalogue.specs.Taking.{IsFit, added_of}
use Rattle.courses.specs.declared.refusal.Refusal.{Refusal}
use Rattle.courses.specs.declared.refusal.Refusal.TheVariants.{HasFault, HasControlFault}
use Rattle.courses.specs.ControlLines.{EntryFault, OfLine, OfControl, entry_of}
use Rattle.courses.specs.Course.{CourseEntry, Hears, Adds, Drops}
use Rattle.courses.specs.Fits.{Fits}
use Rattle.courses.specs.QuerySet.{set_in}
use Rattle.session.specs.declared.control.Change.{Change}
use Rattle.session.specs.declared.control.Change.TheVariants as change
use Rattle.session.specs.declared.reading.Handed.{Handed}
use Rattle.session.specs.declared.reading.Handed.TheVariants as handed
use Rattle.session.specs.declared.reading.Next.{Next}
use Rattle.session.specs.declared.reading.Next.TheVariants as next

-- what is handed to the work on lines, as it was read
abbrev pub read_as : Handed → Next
read_as (handed.Event line) = next.Event line
read_as (handed.Change made) = next.Change made
read_as (handed.Refused refusal) = next.Refused refusal.value
read_as handed.NotYet = next.NotYet

-- the event that was read
abbrev pub event_of : Seen → Event
event_of seen = record { stream = seen.stream; tuple = seen.tuple }

-- the entry of a change of the queries of a catalogue
abbrev pub entry_by : Catalogued → Change → CourseEntry
entry_by c (change.Comes query) = Adds (added_of query)
entry_by c (change.Leaves number) = Drops (query_in c number)

-- the change may be made: the query that comes is fit, or the one that leaves is there and none reads it
abbrev pub MayBeMade : Catalogued → Change → Type 0
MayBeMade c (change.Comes query) = IsFit c.streams (added_of query)
MayBeMade c (change.Leaves number) = (number < length c.order) × IsUnread c number

-- the refusal of a line for its fault
abbrev pub refusal_for : ℕ → EntryFault → Refusal
refusal_for number (OfLine why) = HasFault number why
refusal_for number (OfControl why) = HasControlFault number why

-- this change is asked for
abbrev pub Asks : Change → Next → Type 0
Asks made (next.Change other) = other.value ≡ made
Asks made (next.Event line) = ⊥
Asks made (next.Refused refusal) = ⊥
Asks made next.NotYet = ⊥

-- what is read of a line of this number, over the queries of a catalogue, where the line says this
abbrev pub Finds : Catalogued → ℕ → Result CourseEntry EntryFault → Next → Type 0
Finds c number found (next.Event line) = (line.number ≡ number) × (found ≡ Ok (Hears (event_of line.event)))
Finds c number found (next.Change made) = (found ≡ Ok (entry_by c made.value)) × MayBeMade c made.value
Finds c number found (next.Refused refusal) = (why : EntryFault) × (found ≡ Err why) × (refusal ≡ refusal_for number why)
Finds c number found next.NotYet = ⊥

-- what is read of a line of this number and these bytes
abbrev pub Says : Catalogued → ℕ → List ℕ → Next → Type 0
Says c number bytes = Finds c number (entry_of (set_in c) bytes)

-- what comes next of the lines that are left: one that says this, which is then gone; or one that is refused; or no line that has its end
abbrev pub Shows : Catalogued → Fed → Fed → Next → Type 0
Shows c old new (next.Refused refusal) =
    (line : Line) × Says c line.number line.bytes (next.Refused refusal) × ((ended : Bool) → (rest : List Line) × (unread_lines old ended ≡ line ∷ rest))
Shows c old new next.NotYet = IsPart new × ((ended : Bool) → unread_lines old ended ≡ unread_lines new ended)
Shows c old new other = (line : Line) × Says c line.number line.bytes other × ((ended : Bool) → unread_lines old ended ≡ line ∷ unread_lines new ended)

-- what is left where the text ends here: one line, which says this, or none
abbrev pub ShowsLast : Catalogued → Fed → Next → Type 0
ShowsLast c feed next.NotYet = unread_lines feed true ≡ []
ShowsLast c feed other = (line : Line) × Says c line.number line.bytes other × (unread_lines feed true ≡ line ∷ [])

-- an event that comes next fits its stream
abbrev pub FitsNext : List Entry → Next → Type 0
FitsNext streams (next.Event line) = Fits streams line.event
FitsNext streams other = ⊤
