-- The tokens of a text.
use Rattle.std.specs.Prelude.{ℕ, zero, suc, ◌+◌, ◌-◌, List, [], ◌∷◌, nat_eq, if◌then◌else◌, Result, Ok, Err}
use Rattle.std.specs.List.{starts_with}
use Rattle.cel_lexer.specs.Bytes.{is_line_feed}
use Rattle.cel_lexer.specs.Pieces.{piece_of}
use Rattle.cel_lexer.specs.declared.pieces.Piece.{Piece}
use Rattle.cel_lexer.specs.declared.pieces.Piece.TheVariants as piece
use Rattle.cel_lexer.specs.declared.token.Token.{Token}
use Rattle.cel_lexer.specs.declared.fault.LexFault.{LexFault}
use Rattle.cel_lexer.specs.declared.fault.LexFault.TheVariants as fault

-- the tokens, or the first fault
abbrev pub Lexed : Type 0
Lexed = Result (List Token) LexFault

-- a token before those that follow, unless they have a fault
abbrev pub before : Token → Lexed → Lexed
before token (Ok tokens) = Ok (token ∷ tokens)
before token (Err fault) = Err fault

-- the line of the place behind this byte
abbrev pub line_after : ℕ → ℕ → ℕ
line_after b line = if is_line_feed b then line + 1 else line

-- what a piece at this line and place gives, and then what follows its first byte
abbrev pub with_piece : Piece → ℕ → ℕ → (ℕ → Lexed) → Lexed
with_piece (piece.Gap n) line at follows = follows (n - 1)
with_piece (piece.Lexeme what n) line at follows =
    before (record { what = what; line = line; begin = at; end = at + n }) (follows (n - 1))
with_piece piece.BadToken line at follows = Err (fault.BadToken line)
with_piece piece.NumberPast128 line at follows = Err (fault.NumberPast128 line)

-- the tokens of a text from this line and place on, where its first n bytes are passed over
unfoldable pub tokens_from : ℕ → ℕ → ℕ → List ℕ → Lexed
tokens_from n line at [] = Ok []
tokens_from zero line at (b ∷ rest) =
    with_piece (piece_of (b ∷ rest)) line at (λ n. tokens_from n (line_after b line) (at + 1) rest)
tokens_from (suc n) line at (b ∷ rest) = tokens_from n (line_after b line) (at + 1) rest

-- the bytes EF BB BF
abbrev pub byte_order_mark : List ℕ
byte_order_mark = 0xEF ∷ 0xBB ∷ 0xBF ∷ []

-- how many bytes the mark at the front of a text has
abbrev pub mark_len : List ℕ → ℕ
mark_len text = if starts_with nat_eq text byte_order_mark then 3 else 0

-- the tokens of a text that is UTF-8, from line 1 on, behind the mark at its front
abbrev pub tokens_behind_mark : List ℕ → Lexed
tokens_behind_mark text = tokens_from (mark_len text) 1 0 text
