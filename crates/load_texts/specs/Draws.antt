-- The random numbers of the generator: a linear congruential generator (this project's profile).
use Rattle.std.specs.Prelude.{ℕ, ◌+◌, ◌*◌, ◌/◌, ◌%◌, ◌^◌, zero, suc}

-- the number that a draw puts in the place of this one
abbrev pub drawn : ℕ → ℕ
drawn number = (number * 1103515245 + 12345) % 2 ^ 31

-- the number after so many draws from the seed
abbrev pub after_draws : ℕ → ℕ → ℕ
after_draws seed zero = seed
after_draws seed (suc many) = drawn (after_draws seed many)

-- what the draw at this place gives, counted from 1: from the seed 1 these are 16838, 5758, 10113 and so on
abbrev pub draw : ℕ → ℕ → ℕ
draw seed place = after_draws seed place / 65536
