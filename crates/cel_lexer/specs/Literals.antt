-- Text literals.
use Rattle.std.specs.Prelude.{ℕ, ◌+◌, ◌==◌, List, [], ◌∷◌, Option, Some, None, if◌then◌else◌}
use Rattle.cel_lexer.specs.declared.token.What.TheVariants as what
use Rattle.cel_lexer.specs.declared.pieces.Piece.{Piece}
use Rattle.cel_lexer.specs.declared.pieces.Piece.TheVariants as piece

-- k and the number that may be there
abbrev pub more : ℕ → Option ℕ → Option ℕ
more k None = None
more k (Some n) = Some (k + n)

-- how many bytes a text literal has behind its opening quote: up to a quote that is not doubled, on the same line
abbrev pub literal_rest : List ℕ → Option ℕ
literal_rest [] = None
literal_rest (b ∷ []) = if b == 39 then Some 1 else None
literal_rest (b ∷ next ∷ rest) =
    if b == 10 then None
    else if b == 39 then if next == 39 then more 2 (literal_rest rest) else Some 1
    else more 1 (literal_rest (next ∷ rest))

-- a literal of its opening quote and so many more bytes, and no token where it is not closed
abbrev pub literal_piece : Option ℕ → Piece
literal_piece (Some n) = piece.Lexeme what.Quoted (n + 1)
literal_piece None = piece.BadToken
