-- Lists that are made longer.
use Rattle.std.specs.Prelude.{◌≡◌, ◌≤◌, ℕ, List, length, slice_index_or}

-- items were put at the end of a list that are all this one, maybe none
pub record IsLengthened {X : Type 0} (item : X) (old new : List X) : Type 0 where
  pub longer : length old ≤ length new
  pub same : (place : ℕ) → slice_index_or new place item ≡ slice_index_or old place item
