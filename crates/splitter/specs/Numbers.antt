-- The numbers that are left for hidden streams. No public clause cites this.
use Rattle.std.specs.Prelude.{ℕ, ◌^◌, Option, Some, None}

-- the number that is handed out next, which is 2^64 where usize has none left
abbrev pub next_number : Option ℕ → ℕ
next_number (Some number) = number
next_number None = 2 ^ 64
