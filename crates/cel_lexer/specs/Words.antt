-- Words, which are keywords or names.
use Rattle.std.specs.Prelude.{ℕ, Bool, List, [], ◌∷◌, length, nat_le, codes, if◌then◌else◌}
use Rattle.std.specs.List.{list_any}
use Rattle.std.specs.Str.{bytes_eq}
use Rattle.cel_lexer.specs.declared.token.What.TheVariants as what
use Rattle.cel_lexer.specs.declared.pieces.Piece.{Piece}
use Rattle.cel_lexer.specs.declared.pieces.Piece.TheVariants as piece

-- the words that are no names
abbrev pub keywords : List (List ℕ)
keywords =
    codes "STREAM" ∷ codes "INT" ∷ codes "TEXT" ∷ codes "SELECT" ∷ codes "AS" ∷ codes "FROM"
    ∷ codes "PUBLISH" ∷ codes "FILTER" ∷ codes "NEXT" ∷ codes "FOLD" ∷ codes "UNION" ∷ codes "AND"
    ∷ codes "OR" ∷ codes "NOT" ∷ codes "TRUE" ∷ codes "DUR" ∷ codes "MIN" ∷ codes "MAX" ∷ []

-- the word is one of the keywords
unfoldable pub is_keyword : List ℕ → Bool
is_keyword word = list_any (λ keyword. bytes_eq keyword word) keywords

-- a word is a keyword or a name, and no token where it has more than 64 bytes
abbrev pub word_piece : List ℕ → Piece
word_piece word =
    if nat_le (length word) 64
    then piece.Lexeme (if is_keyword word then what.Keyword else what.Name) (length word)
    else piece.BadToken
