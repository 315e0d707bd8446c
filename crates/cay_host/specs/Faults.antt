-- Counts that stay at 2^64-1 once they are there.
use Rattle.std.specs.Prelude.{ℕ, ◌+◌, ◌-◌, ◌^◌, ◌≤◌, min, max}

-- a count with so many more
abbrev pub saturating_add : ℕ → ℕ → ℕ
saturating_add n k = max n (min (n + k) (2 ^ 64 - 1))

-- a count with one more
abbrev pub raised : ℕ → ℕ
raised n = min (n + 1) (2 ^ 64 - 1)

-- the count rose, or stands at its end
abbrev pub Rose : ℕ → ℕ → Type 0
Rose before now = raised before ≤ now
