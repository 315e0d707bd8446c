-- Names.
use Rattle.std.specs.Prelude.{ℕ, Bool, false, ◌==◌, List, length}
use Rattle.cel_lexer.specs.Pieces.{piece_of}
use Rattle.cel_lexer.specs.declared.token.What.TheVariants as what
use Rattle.cel_lexer.specs.declared.token.Token.{Token}
use Rattle.cel_lexer.specs.declared.pieces.Piece.{Piece}
use Rattle.cel_lexer.specs.declared.pieces.Piece.TheVariants as piece

-- the piece is a name of so many bytes
abbrev pub is_name_of : ℕ → Piece → Bool
is_name_of len (piece.Lexeme what.Name n) = n == len
is_name_of len p = false

-- the word is one name: the longest piece at its front is a name that has all its bytes
abbrev pub is_name : List ℕ → Bool
is_name word = is_name_of (length word) (piece_of word)

-- the token of a word that is one name
abbrev pub name_over : List ℕ → Token
name_over word = record { what = what.Name; line = 1; begin = 0; end = length word }
