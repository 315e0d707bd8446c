-- Files whose events may lag behind: whose turn it is, which event is late, and below which time no more events come.
use Rattle.std.specs.Prelude.{◌≡◌, ℕ, ◌≤◌, ◌+◌, ◌-◌, Bool, true, false, nat_le, nat_lt, min, max, if◌then◌else◌, List, [], ◌∷◌, Option, Some, None, slice_get, slice_set}
use Rattle.source_merge.specs.declared.source.Source.{Source}

-- a file of which nothing was read
abbrev pub unread : Source
unread = record { greatest = None; ended = false }

-- whether a greatest time so far is no later than another; a file without an event yet comes first
abbrev pub is_no_later : Option ℕ → Option ℕ → Bool
is_no_later None other = true
is_no_later (Some time) None = false
is_no_later (Some time) (Some other) = nat_le time other

-- of a file that hasn't ended and the one whose turn it is among those behind it, the one whose turn it is: ties go to the lower number
abbrev pub first_of : ℕ → Source → Option (ℕ × Source) → Option (ℕ × Source)
first_of number source None = Some (number, source)
first_of number source (Some next) = if is_no_later source.greatest next.1.greatest then Some (number, source) else Some next

-- of the files from a number on, the one whose turn it is: it hasn't ended, and its greatest time so far is least
abbrev pub turn_from : ℕ → List Source → Option (ℕ × Source)
turn_from number [] = None
turn_from number (source ∷ more) = if source.ended then turn_from (number + 1) more else first_of number source (turn_from (number + 1) more)

-- the file whose turn it is, by its number; none where all have ended; `TurnsAreTheEarliest` says in a sentence which one it is
abbrev pub turn_in : List Source → Option (ℕ × Source)
turn_in sources = turn_from 0 sources

-- the first file has its turn before the other: its greatest time so far is no later, and where both are as far its number is no higher
pub record ComesBefore (first other : ℕ × Source) : Type 0 where
  pub no_later : is_no_later first.1.greatest other.1.greatest ≡ true
  pub lower : is_no_later other.1.greatest first.1.greatest ≡ true → first.0 ≤ other.0

-- the turn is that of a file which stands at its number and hasn't ended, and which comes before all that haven't; or all have ended
abbrev pub IsTurn : List Source → Option (ℕ × Source) → Type 0
IsTurn sources None = (number : ℕ) (other : Source) → slice_get sources number ≡ Some other → other.ended ≡ true
IsTurn sources (Some turn) =
    (slice_get sources turn.0 ≡ Some turn.1) × (turn.1.ended ≡ false)
    × ((number : ℕ) (other : Source) → slice_get sources number ≡ Some other → other.ended ≡ false → ComesBefore turn (number, other))

-- the file whose turn it is, is one before which no other has its turn
abbrev pub TurnsAreTheEarliest : Type 0
TurnsAreTheEarliest = (sources : List Source) → IsTurn sources (turn_in sources)

-- the bound of a file: its greatest time so far less the lateness that is allowed; 0, below which no time is, where that is negative or the file has no event yet
abbrev pub bound : ℕ → Option ℕ → ℕ
bound slack None = 0
bound slack (Some greatest) = greatest - slack

-- an event of this time is late in a file: it is below the file's bound
abbrev pub is_late : ℕ → Source → ℕ → Bool
is_late slack source at = nat_lt at (bound slack source.greatest)

-- the lesser of a bound and of those behind it, if there are any
abbrev pub lesser : ℕ → Option ℕ → Option ℕ
lesser bound None = Some bound
lesser bound (Some other) = Some (min bound other)

-- the least bound over the files that haven't ended, if there is one
abbrev pub watermark : ℕ → List Source → Option ℕ
watermark slack [] = None
watermark slack (source ∷ more) = if source.ended then watermark slack more else lesser (bound slack source.greatest) (watermark slack more)

-- a time is below the watermark, or all files have ended
abbrev pub is_below : Option ℕ → ℕ → Bool
is_below None at = true
is_below (Some mark) at = nat_lt at mark

-- the greatest time so far, after an event of this time
abbrev pub later : Option ℕ → ℕ → ℕ
later None at = at
later (Some greatest) at = max greatest at

-- the files after an event of this time in one of them
abbrev pub with_time : List Source → ℕ → Source → ℕ → List Source
with_time sources file source at = slice_set sources file (record { greatest = Some (later source.greatest at); ended = source.ended })

-- the files after the end of one of them
abbrev pub with_end : List Source → ℕ → Source → List Source
with_end sources file source = slice_set sources file (record { greatest = source.greatest; ended = true })
