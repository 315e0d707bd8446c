-- What is heard of the lines of an event text, which line is refused, and which epochs are closed.
use Rattle.std.specs.Prelude.{ℕ, Bool, true, false, not, ◌&&◌, ◌==◌, nat_le, nat_lt, if◌then◌else◌, is_some, is_none, List, [], ◌∷◌, ◌++◌, Option, Some, None, Result, Ok, Err}
use Rattle.std.specs.Option.{option_or}
use Rattle.std.specs.List.{filter}
use Rattle.event_csv.specs.Lines.{Line, lines}
use Rattle.courses.specs.declared.refusal.Refusal.{Refusal}
use Rattle.courses.specs.declared.refusal.Refusal.TheVariants.{HasFault, HasControlFault, IsOutOfOrder}
use Rattle.courses.specs.ControlLines.{EntryFault, OfLine, OfControl, entry_of}
use Rattle.courses.specs.Course.{Course, CourseEntry, Hears, Adds, Drops, Moment, after, start}
use Rattle.courses.specs.QuerySet.{QuerySet}

-- whether an event of this time comes too late: below the last one's where its epoch is open, and not above it where it is closed
abbrev pub is_late : Bool → ℕ → ℕ → Bool
is_late is_open at seen = if is_open then nat_lt at seen else nat_le at seen

-- the refusal of an event's line, where the last event was detected at the time that was seen
abbrev pub disorder : ℕ → Bool → Option ℕ → ℕ → Option Refusal
disorder number is_open None at = None
disorder number is_open (Some seen) at = if is_late is_open at seen then Some (IsOutOfOrder number at seen) else None

-- the refusal of a line by what it says at a moment
abbrev pub refusal_of : ℕ → Moment → Result CourseEntry EntryFault → Option Refusal
refusal_of number m (Ok (Hears event)) = disorder number m.is_open m.seen event.tuple.at
refusal_of number m (Ok (Adds added)) = None
refusal_of number m (Ok (Drops query)) = None
refusal_of number m (Err (OfLine why)) = Some (HasFault number why)
refusal_of number m (Err (OfControl why)) = Some (HasControlFault number why)

-- the entries of a line
abbrev pub entries_in : Result CourseEntry EntryFault → Course
entries_in (Ok entry) = entry ∷ []
entries_in (Err why) = []

-- the moment after a line
abbrev pub after_line : Moment → Line → Moment
after_line m line = after m (entries_in (entry_of m.set line.bytes))

-- the refusal of a line at a moment
abbrev pub refusal_at : Moment → Line → Option Refusal
refusal_at m line = refusal_of line.number m (entry_of m.set line.bytes)

-- the first refused line of those that come at a moment
abbrev pub refused_from : Moment → List Line → Option Refusal
refused_from m [] = None
refused_from m (line ∷ lines) = option_or (refusal_at m line) (refused_from (after_line m line) lines)

-- the entries of the lines before the refused one, or of all lines
abbrev pub heard_from : Moment → List Line → Course
heard_from m [] = []
heard_from m (line ∷ lines) = if is_some (refusal_at m line) then [] else entries_in (entry_of m.set line.bytes) ++ heard_from (after_line m line) lines

-- whether it is the time that was seen
abbrev pub is_seen : Option ℕ → ℕ → Bool
is_seen None at = false
is_seen (Some seen) at = at == seen

-- whether an entry is the event of another time, or no event
abbrev pub is_before_last : Option ℕ → CourseEntry → Bool
is_before_last seen (Hears event) = not (is_seen seen event.tuple.at)
is_before_last seen (Adds added) = true
is_before_last seen (Drops query) = true

-- the course without its open epoch: the events of its last event's time, which stand at its end
abbrev pub without_open : Moment → Course → Course
without_open m course = if m.is_open then filter (is_before_last m.seen) course else course

-- the first refused line of an event text that comes after a course
abbrev pub refused_after : QuerySet → Course → List Line → Option Refusal
refused_after set past lines = refused_from (after (start set) past) lines

-- the course, and the entries of the lines before the refused one, or of all lines
abbrev pub heard_after : QuerySet → Course → List Line → Course
heard_after set past lines = past ++ heard_from (after (start set) past) lines

-- the entries whose epochs are closed: by a later event, by a control line, or by the end of a text without a refused line
abbrev pub closed_after : QuerySet → Course → List Line → Bool → Course
closed_after set past lines ended =
    if ended && is_none (refused_after set past lines) then heard_after set past lines
    else without_open (after (start set) (heard_after set past lines)) (heard_after set past lines)
