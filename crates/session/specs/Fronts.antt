-- The fronts of rows, stream by stream. No public clause cites this module.
use Rattle.std.specs.Prelude.{◌≡◌, ◌≤◌, ℕ, List, [], length, Option, Some, slice_get, slice_index_or}
use Rattle.stream_schema.specs.Streams.{Entry, stream_names}
use Rattle.result_text.specs.Front.{front_of}

-- the name of the stream of this number
abbrev pub name_in : List Entry → ℕ → List ℕ
name_in streams stream = slice_index_or (stream_names streams) stream []

-- the fronts that are made are those of the names of their streams
pub record AreFronts (streams : List Entry) (fronts : List (Option (List ℕ))) : Type 0 where
  pub within : length fronts ≤ length streams
  pub named : (stream : ℕ) (front : List ℕ) → slice_get fronts stream ≡ Some (Some front) → front ≡ front_of (name_in streams stream)
