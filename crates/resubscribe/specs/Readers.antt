-- First readers. No public clause cites this.
use Rattle.std.specs.Prelude.{◌≡◌, ◌<◌, ◌≤◌, ℕ, true, List, length, slice_index}
use Rattle.resubscribe.specs.Order.{is_among, reads_of}

-- of the first so many queries none reads a query before the number that stands at that query
pub record AreBefore (firsts : List ℕ) (reads : List (List ℕ)) (many : ℕ) : Type 0 where
  pub long : length firsts ≡ length reads
  pub before : (reader query : ℕ) → reader < many → query < length reads → is_among (reads_of reads reader) query ≡ true → slice_index firsts query ≤ reader

-- no entry rises, and those of the queries that are read are no greater than the reader
pub record Lowers (old new : List ℕ) (reads : List ℕ) (reader : ℕ) : Type 0 where
  pub long : length new ≡ length old
  pub lower : (query : ℕ) → slice_index new query ≤ slice_index old query
  pub read : (query : ℕ) → query < length old → is_among reads query ≡ true → slice_index new query ≤ reader
