-- Marks and signs.
use Rattle.std.specs.Prelude.{ℕ, Bool, ◌==◌, ◌||◌, ◌&&◌, List, codes, if◌then◌else◌}
use Rattle.std.specs.List.{list_any}
use Rattle.cel_lexer.specs.Bytes.{is_first}
use Rattle.cel_lexer.specs.declared.token.What.TheVariants as what
use Rattle.cel_lexer.specs.declared.pieces.Piece.{Piece}
use Rattle.cel_lexer.specs.declared.pieces.Piece.TheVariants as piece

-- the byte names a side behind $: 1 or 2
abbrev pub is_side : ℕ → Bool
is_side b = (b == 49) || (b == 50)

-- $1 or $2 where one of them stands, else $ alone
abbrev pub mark_piece : List ℕ → Piece
mark_piece rest = piece.Lexeme what.Mark (if is_first is_side rest then 2 else 1)

-- the byte alone is a sign
unfoldable pub is_sign : ℕ → Bool
is_sign b = list_any (λ sign. sign == b) (codes "(){},;.*+-=<>")

-- the two bytes are one sign: <>, <= or >=
abbrev pub is_long_sign : ℕ → ℕ → Bool
is_long_sign b next = ((b == 60) && (next == 62)) || (((b == 60) || (b == 62)) && (next == 61))

-- the longest sign that begins with this byte, and no token where none does
abbrev pub sign_piece : ℕ → List ℕ → Piece
sign_piece b rest =
    if is_sign b
    then piece.Lexeme what.Sign (if is_first (is_long_sign b) rest then 2 else 1)
    else piece.BadToken
