-- The piece at the front of a text: what separates tokens, or a token.
use Rattle.std.specs.Prelude.{ℕ, ◌==◌, ◌&&◌, List, [], ◌∷◌, length, take_while, if◌then◌else◌}
use Rattle.std.specs.Char.{is_ascii_digit}
use Rattle.cel_lexer.specs.Bytes.{is_blank, is_comment_byte, is_first, is_letter, is_word_byte}
use Rattle.cel_lexer.specs.Words.{word_piece}
use Rattle.cel_lexer.specs.Numbers.{numeral_piece}
use Rattle.cel_lexer.specs.Literals.{literal_piece, literal_rest}
use Rattle.cel_lexer.specs.Signs.{mark_piece, sign_piece}
use Rattle.cel_lexer.specs.declared.pieces.Piece.{Piece}
use Rattle.cel_lexer.specs.declared.pieces.Piece.TheVariants as piece

-- the longest piece at the front of a text: by its first byte a blank, a comment, a word, a number or a decimal,
-- a text literal, a mark or a sign
abbrev pub piece_of : List ℕ → Piece
piece_of [] = piece.BadToken
piece_of (b ∷ rest) =
    if is_blank b then piece.Gap 1
    else if (b == 45) && is_first (λ next. next == 45) rest then piece.Gap (length (take_while is_comment_byte (b ∷ rest)))
    else if is_letter b then word_piece (take_while is_word_byte (b ∷ rest))
    else if is_ascii_digit b then numeral_piece (b ∷ rest)
    else if b == 39 then literal_piece (literal_rest rest)
    else if b == 36 then mark_piece rest
    else sign_piece b rest
