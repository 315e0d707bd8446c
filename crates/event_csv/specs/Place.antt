-- The place in the bytes of a feed up to which lines were taken. No public contract cites this module.
use Rattle.std.specs.Prelude.{◌≡◌, ℕ, ◌+◌, ◌<◌, ◌≤◌, ◌^◌, Bool, true, false, not, ◌&&◌, ◌||◌, List, length, take, drop, slice_index}
use Rattle.event_csv.specs.Lines.{is_empty, is_line_feed, is_header}
use Rattle.event_csv.specs.Fed.{Fed, line_feeds_in}
use Rattle.event_csv.specs.declared.place.Place.{Place}

-- what a feed holds with these bytes and this place
abbrev pub fed_at : List ℕ → Place → Fed
fed_at bytes place = record { gone = place.gone; begun = place.begun; met = place.met; rest = drop place.start bytes }

-- no line feed stands from one place up to another
abbrev pub NoFeed : List ℕ → ℕ → ℕ → Type 0
NoFeed bytes from to = (k : ℕ) → from ≤ k → k < to → is_line_feed (slice_index bytes k) ≡ false

-- the first line feed from a place on
pub record IsFeedAt (bytes : List ℕ) (from end : ℕ) : Type 0 where
  pub after : from ≤ end
  pub within : end < length bytes
  pub first : NoFeed bytes from end
  pub here : is_line_feed (slice_index bytes end) ≡ true

-- the line of each byte that is left has a number of 64 bits
abbrev pub HasNumbers : ℕ → List ℕ → Type 0
HasNumbers gone rest = (k : ℕ) → k < length rest → gone + line_feeds_in (take k rest) + 1 < 2 ^ 64

-- the place lies within the bytes, and up to `searched` there is no line feed
pub record IsPlace (bytes : List ℕ) (place : Place) : Type 0 where
  pub in_order : place.start ≤ place.searched
  pub within : place.searched ≤ length bytes
  pub no_feed : NoFeed bytes place.start place.searched
  pub numbers : HasNumbers place.gone (drop place.start bytes)

-- the front of the text is passed, or there are too few bytes for a mark
abbrev pub BegunOrShort : List ℕ → Place → Type 0
BegunOrShort bytes place = place.begun ≡ false → length bytes < place.start + 3

-- whether a line is passed over: it is empty, or the header
abbrev pub is_skipped : Bool → List ℕ → Bool
is_skipped met bytes = is_empty bytes || (not met && is_header bytes)

-- whether a line that isn't empty was met, this one included
abbrev pub met_after : Bool → List ℕ → Bool
met_after met bytes = met || not (is_empty bytes)
