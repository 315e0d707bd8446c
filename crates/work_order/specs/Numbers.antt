-- The numbers of queries, and those of the queries that stay as one leaves.
use Rattle.std.specs.Prelude.{◌≢◌, ◌<◌, ◌-◌, ◌↔◌, ℕ, nat_lt, if◌then◌else◌, List, length, AllPairs, Contains}

-- the numbers are those below how many there are, each once
pub record AreNumbers (numbers : List ℕ) : Type 0 where
  pub distinct : AllPairs (λ x y. x ≢ y) numbers
  pub all : (number : ℕ) → Contains numbers number ↔ (number < length numbers)

-- the number of a query once another one has left: the later queries move down by one
abbrev pub moved_down : ℕ → ℕ → ℕ
moved_down gone number = if nat_lt gone number then number - 1 else number
