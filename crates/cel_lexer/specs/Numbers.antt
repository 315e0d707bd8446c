-- Whole numbers and decimals from their digits.
use Rattle.std.specs.Prelude.{ℕ, ◌+◌, ◌==◌, ◌^◌, pos, List, [], ◌∷◌, ◌++◌, drop, length, nat_le, nat_lt, take_while, Option, Some, None, if◌then◌else◌}
use Rattle.std.specs.Char.{is_ascii_digit}
use Rattle.std.specs.Str.Parse.{digits_value}
use Rattle.cel_lexer.specs.declared.token.What.TheVariants as what
use Rattle.cel_lexer.specs.declared.pieces.Piece.{Piece}
use Rattle.cel_lexer.specs.declared.pieces.Piece.TheVariants as piece

-- the number itself, where it is at most 2^127 - 1
abbrev pub in_range : ℕ → Option ℕ
in_range n = if nat_lt n (2 ^ 127) then Some n else None

-- a whole number of so many digits
abbrev pub number_of : Option ℕ → ℕ → Piece
number_of None len = piece.NumberPast128
number_of (Some n) len = piece.Lexeme (what.Number (pos n)) len

-- the number that the digits write, where it is at most 2^127 - 1
abbrev pub number_piece : List ℕ → Piece
number_piece digits = number_of (in_range (digits_value 10 digits)) (length digits)

-- a decimal of these units and so many places, which has so many bytes
abbrev pub decimal_of : Option ℕ → ℕ → ℕ → Piece
decimal_of None scale len = piece.NumberPast128
decimal_of (Some n) scale len = piece.Lexeme (what.Decimal scale (pos n)) len

-- the decimal of the digits before a point and behind it: no token where more than 18 stand behind it; else the units are the number that all the digits write, where it is at most 2^127 - 1
abbrev pub decimal_piece : List ℕ → List ℕ → Piece
decimal_piece whole places =
    if nat_le (length places) 18
    then decimal_of (in_range (digits_value 10 (whole ++ places))) (length places) (length whole + 1 + length places)
    else piece.BadToken

-- what stands behind a point at the front of a text, which may be missing
abbrev pub behind_point : List ℕ → List ℕ
behind_point [] = []
behind_point (b ∷ rest) = if b == 46 then rest else []

-- a decimal where digits stand behind a point that follows these digits, and else a whole number
abbrev pub number_or_decimal : List ℕ → List ℕ → Piece
number_or_decimal whole [] = number_piece whole
number_or_decimal whole (digit ∷ places) = decimal_piece whole (digit ∷ places)

-- the longest number or decimal at the front of a text that begins with a digit
unfoldable pub numeral_piece : List ℕ → Piece
numeral_piece text =
    let whole = take_while is_ascii_digit text in number_or_decimal whole (take_while is_ascii_digit (behind_point (drop (length whole) text)))
