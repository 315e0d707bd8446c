-- What event texts say where no control line is taken: what is heard of their lines, which line is refused, and which epochs are closed.
use Rattle.std.specs.Prelude.{ℕ, Bool, ◌&&◌, if◌then◌else◌, is_some, is_none, List, [], ◌∷◌, ◌++◌, map, Option, Some, None, Result, Ok, Err}
use Rattle.std.specs.Option.{option_or}
use Rattle.std.specs.Str.{is_utf8}
use Rattle.semantics.specs.Histories.{Event}
use Rattle.stream_schema.specs.Streams.{Entry}
use Rattle.epoch_laws.specs.Standing.{closed_part, last_time}
use Rattle.event_csv.specs.declared.event.Seen.{Seen}
use Rattle.event_csv.specs.declared.fault.LineFault.{LineFault}
use Rattle.event_csv.specs.declared.fault.LineFault.TheVariants.{LineTooLong, NotUtf8}
use Rattle.event_csv.specs.Control.{is_control}
use Rattle.event_csv.specs.Event.{event}
use Rattle.event_csv.specs.Lines.{Line, is_long, lines}
use Rattle.courses.specs.declared.fault.ControlFault.TheVariants.{NotHere}
use Rattle.courses.specs.declared.refusal.Refusal.{Refusal}
use Rattle.courses.specs.declared.refusal.Refusal.TheVariants.{HasControlFault, HasFault}
use Rattle.courses.specs.ControlLines.{EntryFault, OfControl, OfLine}
use Rattle.courses.specs.Heard.{disorder}

-- an event line as it is read: its number, and its event or its fault
pub record Reading : Type 0 where
  pub number : ℕ
  pub found : Result Event EntryFault

-- the event that was read
abbrev pub heard_of : Seen → Event
heard_of seen = record { stream = seen.stream; tuple = seen.tuple }

-- the same, or the fault of a line
abbrev pub found_of : Result Seen LineFault → Result Event EntryFault
found_of (Ok seen) = Ok (heard_of seen)
found_of (Err why) = Err (OfLine why)

-- a line as it is read over these streams: its number, and its event or its first fault
abbrev pub reading_of : List Entry → Line → Reading
reading_of streams line = record { number = line.number; found = found_of (event streams line.bytes) }

-- the lines of an event text as they are read, where the text has ended or not
abbrev pub readings : List Entry → List ℕ → Bool → List Reading
readings streams text ended = map (reading_of streams) (lines text ended)

-- what a control line says where none is taken
abbrev pub control_here : List ℕ → Result Event EntryFault
control_here bytes = if is_utf8 bytes then Err (OfControl NotHere) else Err (OfLine NotUtf8)

-- what a line says where no control line is taken: one that is too long has that fault, one that begins with > is refused, and any other is an event line
abbrev pub found_here : List Entry → List ℕ → Result Event EntryFault
found_here streams bytes =
    if is_long bytes then Err (OfLine LineTooLong)
    else if is_control bytes then control_here bytes else found_of (event streams bytes)

-- a line as it is read where no control line is taken
abbrev pub reading_here : List Entry → Line → Reading
reading_here streams line = record { number = line.number; found = found_here streams line.bytes }

-- the lines of an event text as they are read where no control line is taken
abbrev pub readings_here : List Entry → List ℕ → Bool → List Reading
readings_here streams text ended = map (reading_here streams) (lines text ended)

-- the refusal of one line, where the last event before it was detected at the time that was seen, and its epoch is open
abbrev pub refusal_of : ℕ → Option ℕ → Result Event EntryFault → Option Refusal
refusal_of number seen (Ok event) = disorder number (is_some seen) seen event.tuple.at
refusal_of number seen (Err (OfLine why)) = Some (HasFault number why)
refusal_of number seen (Err (OfControl why)) = Some (HasControlFault number why)

-- the detection time of a line's event, if it has one
abbrev pub last_after : Result Event EntryFault → Option ℕ
last_after (Ok event) = Some event.tuple.at
last_after (Err fault) = None

-- the events of a line
abbrev pub events_in : Result Event EntryFault → List Event
events_in (Ok event) = event ∷ []
events_in (Err fault) = []

-- the first refused line
abbrev pub refused_from : Option ℕ → List Reading → Option Refusal
refused_from seen [] = None
refused_from seen (line ∷ lines) = option_or (refusal_of line.number seen line.found) (refused_from (last_after line.found) lines)

-- the events of the lines before the refused one, or of all lines
abbrev pub heard_from : Option ℕ → List Reading → List Event
heard_from seen [] = []
heard_from seen (line ∷ lines) = if is_some (refusal_of line.number seen line.found) then [] else events_in line.found ++ heard_from (last_after line.found) lines

-- the events that are detected before the last one
abbrev pub before_last : List Event → List Event
before_last history = closed_part (last_time history) history

-- the first refused line of an event text
abbrev pub refused : List Reading → Option Refusal
refused lines = refused_from None lines

-- the events of the lines before the refused one, or of all lines
abbrev pub heard : List Reading → List Event
heard lines = heard_from None lines

-- the events of the closed epochs: those before the last one, or all where the text has ended without a refused line
abbrev pub closed : List Reading → Bool → List Event
closed lines ended = if ended && is_none (refused lines) then heard lines else before_last (heard lines)
