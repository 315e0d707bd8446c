-- Numbers of symbols. No public clause cites this module.
use Rattle.std.specs.Prelude.{ℕ, ℤ, pos}

-- the number of a symbol, which no token has below 0
abbrev pub counted : ℤ → ℕ
counted (pos n) = n
counted z = 0
