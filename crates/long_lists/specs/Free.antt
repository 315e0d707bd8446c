-- Free numbers as ones and zeros. No public clause cites this module.
use Rattle.std.specs.Prelude.{ℕ, ◌==◌, ◌<◌, ◌≤◌, ◌^◌, All, Bool, List, length, map}

-- whether each number of a list is 1
abbrev pub are_one : List ℕ → List Bool
are_one ones = map (λ one. one == 1) ones

-- each is 0 or 1, and how many there are fits a word
pub record AreOnes (ones : List ℕ) : Type 0 where
  pub each : All (λ one. one ≤ 1) ones
  pub fits : length ones < 2 ^ 64
