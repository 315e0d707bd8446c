-- What stands in a room that tails are written into from their ends to their starts. No public contract cites this module.
use Rattle.std.specs.Prelude.{◌≡◌, ◌≤◌, ℕ, List, ◌++◌, length, drop}

-- the text stands before what stood at a place, and starts at another
pub record IsBefore (text old : List ℕ) (end : ℕ) (new : List ℕ) (start : ℕ) : Type 0 where
  pub within : start ≤ length new
  pub bytes : drop start new ≡ text ++ drop end old

-- the text stands at the end
pub record IsAtEnd (text room : List ℕ) (start : ℕ) : Type 0 where
  pub within : start ≤ length room
  pub bytes : drop start room ≡ text
