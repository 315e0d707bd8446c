-- Numbers with a table that marks them. No public clause cites it.
use Rattle.std.specs.Prelude.{◌≡◌, ◌≢◌, ◌<◌, ℕ, ◌+◌, Bool, false, not, List, length, slice_index_or, AllPairs, count_by}
use Rattle.resubscribe.specs.Order.{is_among}

-- distinct numbers below a size
pub record Few : Type 0 where
  pub numbers : List ℕ
  pub size : ℕ

-- the marks stand exactly at the numbers, which are distinct
pub record IsMarked (marks : List Bool) (numbers : List ℕ) : Type 0 where
  pub told : (number : ℕ) → number < length marks → slice_index_or marks number false ≡ is_among numbers number
  pub distinct : AllPairs (λ x y. x ≢ y) numbers
  pub counted : length numbers + count_by not marks ≡ length marks
