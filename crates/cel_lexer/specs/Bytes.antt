-- Bytes of a query text, and what stands at its front.
use Rattle.std.specs.Prelude.{ℕ, Bool, false, not, ◌==◌, ◌||◌, List, [], ◌∷◌}
use Rattle.std.specs.Char.{is_ascii_alphabetic, is_ascii_digit}

-- the byte ends a line
abbrev pub is_line_feed : ℕ → Bool
is_line_feed b = b == 10

-- the byte separates tokens: a space, a tab, CR or LF
abbrev pub is_blank : ℕ → Bool
is_blank b = (b == 32) || (b == 9) || (b == 13) || (b == 10)

-- the byte may begin a word: an ASCII letter or _
abbrev pub is_letter : ℕ → Bool
is_letter b = is_ascii_alphabetic b || (b == 95)

-- the byte may go on with a word: an ASCII letter, a digit or _
abbrev pub is_word_byte : ℕ → Bool
is_word_byte b = is_letter b || is_ascii_digit b

-- the byte goes on with a comment: it does not end the line
abbrev pub is_comment_byte : ℕ → Bool
is_comment_byte b = not (is_line_feed b)

-- the text begins with a byte that passes the test
abbrev pub is_first : (ℕ → Bool) → List ℕ → Bool
is_first test [] = false
is_first test (b ∷ rest) = test b
