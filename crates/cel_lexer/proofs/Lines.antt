-- Line feeds of a text.
use Rattle.std.proofs.Common.{ℕ, ◌+◌, List, [], ◌∷◌}
use Rattle.std.specs.Prelude.{if◌then◌else◌}
use Rattle.cel_lexer.specs.Bytes.{is_first, is_line_feed}

-- how many line feeds a text has
abbrev pub lines_in : List ℕ → ℕ
lines_in [] = 0
lines_in (b ∷ s) = (if is_line_feed b then 1 else 0) + lines_in s

-- 1 where a line feed stands first
abbrev pub first_line : List ℕ → ℕ
first_line s = if is_first is_line_feed s then 1 else 0
