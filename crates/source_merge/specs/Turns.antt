-- The turns in which several event files give their lines.
use Rattle.std.specs.Prelude.{ℕ, Bool, if◌then◌else◌, zero, suc, List, [], ◌∷◌, Option, Some, None, Result, Ok, Err, length, map, slice_get, slice_set}
use Rattle.event_csv.specs.declared.event.Seen.{Seen}
use Rattle.event_csv.specs.declared.fault.LineFault.{LineFault}
use Rattle.source_merge.specs.declared.source.Source.{Source}
use Rattle.source_merge.specs.Calls.{settled}
use Rattle.source_merge.specs.Merging.{ranked}
use Rattle.source_merge.specs.Ranks.{Taken}
use Rattle.source_merge.specs.Sources.{bound, is_late, turn_in, unread, with_end, with_time}

-- a line of an event file as it is read: its number, and its event or its first fault
pub record SourceLine : Type 0 where
  pub number : ℕ
  pub found : Result Seen LineFault

-- what was read of an event file and gave no turn yet: lines, and whether the bytes have ended behind them
pub record Input : Type 0 where
  pub left : List SourceLine
  pub whole : Bool

-- the files between two turns: how far each was read, what is left of it, and the events that were taken, the latest first
pub record Between : Type 0 where
  pub sources : List Source
  pub inputs : List Input
  pub taken : List Taken

-- before the first turn
abbrev pub before_turns : List Input → Between
before_turns inputs = record { sources = map (λ input. unread) inputs; inputs = inputs; taken = [] }

-- why a line stops the turns: it has a fault, or its event is below the bound of its file
pub data MergeStop : Type 0 where
  HasFault : LineFault → MergeStop
  IsLate : ℕ → ℕ → MergeStop

-- what a turn comes to: a line was taken, or its file has ended; a line stops the turns, told by its file, its number and why; no line of the file is there yet; or all files have ended
pub data Turn : Type 0 where
  Goes : Between → Turn
  Stops : ℕ → ℕ → MergeStop → Turn
  Waits : ℕ → Turn
  Over : Turn

-- after an event of a file, whose other lines are left
abbrev pub after_event : Between → ℕ × Source → Input → Seen → Between
after_event b turn rest seen = record {
  sources = with_time b.sources turn.0 turn.1 seen.tuple.at;
  inputs = slice_set b.inputs turn.0 rest;
  taken = ranked (length b.taken) turn.0 seen ∷ b.taken;
}

-- the turn of a line
abbrev pub turn_of_line : ℕ → Between → ℕ × Source → Input → SourceLine → Turn
turn_of_line slack b turn rest line = by line.found
  where
    by : Result Seen LineFault → Turn
    by (Err why) = Stops turn.0 line.number (HasFault why)
    by (Ok seen) =
        if is_late slack turn.1 seen.tuple.at then Stops turn.0 line.number (IsLate seen.tuple.at (bound slack turn.1.greatest))
        else Goes (after_event b turn rest seen)

-- the turn of a file: of its next line; it ends where its lines are used up
abbrev pub turn_of_input : ℕ → Between → ℕ × Source → Input → Turn
turn_of_input slack b turn input = by input.left
  where
    by : List SourceLine → Turn
    by [] = if input.whole then Goes (record { sources = with_end b.sources turn.0 turn.1; inputs = b.inputs; taken = b.taken }) else Waits turn.0
    by (line ∷ more) = turn_of_line slack b turn (record { left = more; whole = input.whole }) line

-- the turn of a file that may be none; one without an input is waited for, as one of which no line is there yet
abbrev pub turn_at : ℕ → Between → Option (ℕ × Source) → Turn
turn_at slack b None = Over
turn_at slack b (Some turn) = of_input (slice_get b.inputs turn.0)
  where
    of_input : Option Input → Turn
    of_input None = Waits turn.0
    of_input (Some input) = turn_of_input slack b turn input

-- the lines left of the file that has this turn
abbrev pub lines_left : Between → Option (ℕ × Source) → List SourceLine
lines_left b None = []
lines_left b (Some turn) = of_input (slice_get b.inputs turn.0)
  where
    of_input : Option Input → List SourceLine
    of_input None = []
    of_input (Some input) = input.left

-- the lines left of the file whose turn it is
abbrev pub next_lines : Between → List SourceLine
next_lines b = lines_left b (turn_in b.sources)

-- the next turn
abbrev pub next_turn : ℕ → Between → Turn
next_turn slack b = turn_at slack b (turn_in b.sources)

-- after a turn; one that stops, or that waits, changes nothing
abbrev pub after_turn : Between → Turn → Between
after_turn b (Goes after) = after
after_turn b other = b

-- after so many turns
abbrev pub after_turns : ℕ → ℕ → Between → Between
after_turns slack zero b = b
after_turns slack (suc many) b = after_turns slack many (after_turn b (next_turn slack b))

-- the events that are settled between two turns
abbrev pub settled_between : ℕ → Between → List Taken
settled_between slack b = settled slack b.sources b.taken
