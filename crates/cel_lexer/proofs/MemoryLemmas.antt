-- No text has want of memory as its fault.
use Rattle.std.proofs.Common.{◌≡◌, ℕ, zero, suc, ◌+◌, ◌-◌, List, [], ◌∷◌, inl, inr, Ok, Err}
use Rattle.std.specs.Str.{is_utf8}
use Rattle.std.proofs.lemmas.Bool.{cases_Bool}
use Rattle.cel_lexer.specs.Faults.{tokens_of}
use Rattle.cel_lexer.specs.Pieces.{piece_of}
use Rattle.cel_lexer.specs.Tokens.{Lexed, before, line_after, mark_len, tokens_from, with_piece}
use Rattle.cel_lexer.specs.declared.fault.LexFault.TheVariants as fault
use Rattle.cel_lexer.specs.declared.pieces.Piece.{Piece}
use Rattle.cel_lexer.specs.declared.pieces.Piece.TheVariants as piece
use Rattle.cel_lexer.specs.declared.token.Token.{Token}

-- a token changes no fault
before_never : (token : Token) (found : Lexed) → (found ≡ Err fault.Memory → ⊥) → before token found ≡ Err fault.Memory → ⊥
before_never token (Ok tokens) never e = absurd cc
before_never token (Err why) never e = never e

-- a piece has no such fault where what follows it has none
piece_never : (p : Piece) (line at : ℕ) (follows : ℕ → Lexed) → ((n : ℕ) → follows n ≡ Err fault.Memory → ⊥) → with_piece p line at follows ≡ Err fault.Memory → ⊥
piece_never (piece.Gap n) line at follows never e = never (n - 1) e
piece_never (piece.Lexeme what n) line at follows never e = before_never _ (follows (n - 1)) (never (n - 1)) e
piece_never piece.BadToken line at follows never e = absurd cc
piece_never piece.NumberPast128 line at follows never e = absurd cc

-- by induction on the bytes
from_never : (n line at : ℕ) (text : List ℕ) → tokens_from n line at text ≡ Err fault.Memory → ⊥
unfolding tokens_from
from_never n line at [] e = absurd cc
from_never zero line at (b ∷ rest) e =
    piece_never (piece_of (b ∷ rest)) line at (λ n. tokens_from n (line_after b line) (at + 1) rest) (λ n. from_never n (line_after b line) (at + 1) rest) e
from_never (suc n) line at (b ∷ rest) e = from_never n (line_after b line) (at + 1) rest e

-- want of memory is no fault of a text
pub never_memory : (text : List ℕ) → tokens_of text ≡ Err fault.Memory → ⊥
never_memory text e = elim (cases_Bool (is_utf8 text)) [
  | inl valid ↦ from_never (mark_len text) 1 0 text (rw valid at e)
  | inr broken ↦ let wrong = rw broken at e in absurd cc
]
