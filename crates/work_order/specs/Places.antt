-- The places of numbers among them.
use Rattle.std.specs.Prelude.{◌≡◌, ◌<◌, ℕ, List, length, slice_index_or}

-- the first so many of these numbers have their places
pub record HasFirstPlaces (numbers : List ℕ) (places : List ℕ) (many : ℕ) : Type 0 where
  pub long : length places ≡ length numbers
  pub there : (place : ℕ) → place < many → slice_index_or places (slice_index_or numbers place 0) 0 ≡ place

-- for each of these numbers its place among them
pub record HasPlaces (numbers : List ℕ) (places : List ℕ) : Type 0 where
  pub long : length places ≡ length numbers
  pub there : (place : ℕ) → place < length numbers → slice_index_or places (slice_index_or numbers place 0) 0 ≡ place
