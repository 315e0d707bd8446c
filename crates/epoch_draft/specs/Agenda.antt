-- The turns of streams in the order of work, which streams are read, and the turns that are to come.
use Rattle.std.specs.Prelude.{◌≡◌, ℕ, Bool, false, true, ◌<◌, ◌≤◌, List, Contains, length, Option, Some, slice_index_or}
use Rattle.std.specs.Option.{option_map}
use Rattle.std.specs.List.{All}
use Rattle.automaton.specs.States.{Net, entrance_at}
use Rattle.automaton.specs.declared.network.Entrance.{Entrance}
use Rattle.automaton.specs.declared.network.Entrance.TheVariants.{Root, Waiting}
use Rattle.epoch_draft.specs.Turns.{HaveTurns, turn_of}
use Rattle.epoch_draft.specs.declared.stream_turns.StreamTurns.{StreamTurns}
use Rattle.epoch_draft.specs.declared.turns.Turns.{Turns}

-- the stream that is read by a state that is entered so: at a root its own, at a waiting state the one on which it waits
abbrev pub read_by : Entrance → ℕ
read_by (Root stream) = stream
read_by (Waiting before hop) = hop.wait.stream

-- the stream that the state with a number reads, if there is such a state
abbrev pub read_at : Net → ℕ → Option ℕ
read_at net number = option_map read_by (entrance_at net number)

-- no state reads a stream
abbrev pub IsUnread : Net → ℕ → Type 0
IsUnread net stream = (number : ℕ) → read_at net number ≡ Some stream → ⊥

-- the streams that were told as read still are
pub record StayTold (old new : List Bool) : Type 0 where
  pub as_many : length new ≡ length old
  pub kept : (stream : ℕ) → slice_index_or old stream false ≡ true → slice_index_or new stream false ≡ true

-- so they are, and so are those that these states read
pub record AreTold (net : Net) (states : List ℕ) (old new : List Bool) : Type 0 where
  pub stay : StayTold old new
  pub told : (state stream : ℕ) → Contains states state → read_at net state ≡ Some stream → stream < length new → slice_index_or new stream false ≡ true

-- there is room for so many streams at least, those of the order have their turns, and of so many streams no state reads those that aren't told as read
pub record AreTurns (net : Net) (order : List ℕ) (streams : ℕ) (turns : StreamTurns) : Type 0 where
  pub many_turns : streams ≤ length turns.turns.given
  pub many_read : streams ≤ length turns.read
  pub in_turn : HaveTurns order turns.turns
  pub unread : (stream : ℕ) → stream < streams → slice_index_or turns.read stream false ≡ false → IsUnread net stream

-- these are turns behind the last that was, each with its stream, which is of the order
abbrev pub AreBehind : List ℕ → Turns → ℕ → List (ℕ × ℕ) → Type 0
AreBehind order turns last = All (λ entry. Contains order entry.1 × (turn_of turns entry.1 ≡ entry.0) × (last < entry.0))

-- a stream's turn is among these, where the stream is told as read and its turn is behind the last that was
abbrev pub IsPlannedIn : StreamTurns → ℕ → List (ℕ × ℕ) → ℕ → Type 0
IsPlannedIn turns last agenda stream = slice_index_or turns.read stream false ≡ true → last < turn_of turns.turns stream → Contains agenda (turn_of turns.turns stream, stream)
