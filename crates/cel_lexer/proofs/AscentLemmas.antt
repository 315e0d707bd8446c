-- The tokens of a text stand one behind another.
use Rattle.std.proofs.Common.{◌≡◌, ℕ, zero, suc, List, [], ◌∷◌, length, ◌+◌, ◌-◌, ◌<◌, ◌≤◌, arith, zero-add}
use Rattle.std.specs.Prelude.{Ok, Err}
use Rattle.cel_lexer.proofs.PieceLemmas.{PieceFits, piece-fits}
use Rattle.cel_lexer.proofs.WalkLemmas.{behind-mark}
use Rattle.cel_lexer.specs.Listing.{Ascend}
use Rattle.cel_lexer.specs.Pieces.{piece_of}
use Rattle.cel_lexer.specs.Tokens.{Lexed, before, line_after, tokens_behind_mark, mark_len, tokens_from, with_piece}
use Rattle.cel_lexer.specs.declared.token.Token.{Token}
use Rattle.cel_lexer.specs.declared.pieces.Piece.{Piece}
use Rattle.cel_lexer.specs.declared.pieces.Piece.TheVariants as piece

-- the tokens stand one behind another, unless there is a fault
OkAscend : ℕ → ℕ → Lexed → Type 0
OkAscend low high (Ok tokens) = Ascend low high tokens
OkAscend low high (Err fault) = Unit {0}

ascend-lower : (least low high : ℕ) (tokens : List Token) → least ≤ low → Ascend low high tokens → Ascend least high tokens
ascend-lower least low high [] le h = tt
ascend-lower least low high (token ∷ tokens) le h = (omega (arith, h.0), h.1, h.2, h.3)

ok-lower : (least low high : ℕ) (r : Lexed) → least ≤ low → OkAscend low high r → OkAscend least high r
unfolding OkAscend
ok-lower least low high (Ok tokens) le h = ascend-lower least low high tokens le h
ok-lower least low high (Err fault) le h = tt

ok-before : (low high : ℕ) (token : Token) (r : Lexed) → low ≤ token.begin → token.begin < token.end → token.end ≤ high
    → OkAscend token.end high r → OkAscend low high (before token r)
unfolding OkAscend
ok-before low high token (Ok tokens) a b c h = (a, b, c, h)
ok-before low high token (Err fault) a b c h = tt

-- what follows the first byte of a piece stands behind the piece
with-piece : (p : Piece) (s : List ℕ) (line at : ℕ) (follows : ℕ → Lexed) → PieceFits p s
    → ((n : ℕ) → n < length s → OkAscend (at + 1 + n) (at + length s) (follows n))
    → OkAscend at (at + length s) (with_piece p line at follows)
unfolding OkAscend
with-piece (piece.Gap n) s line at follows (some, le, lines) h =
    ok-lower at (at + 1 + (n - 1)) (at + length s) (follows (n - 1)) (omega arith) (h (n - 1) (omega arith))
with-piece (piece.Lexeme w n) s line at follows (some, le, lines, first, last) h =
    let place : at + 1 + (n - 1) ≡ at + n = omega arith in
    let behind = h (n - 1) (omega arith) in
    ok-before at (at + length s) _ (follows (n - 1)) (omega arith) (omega arith) (omega arith) (rw place at behind)
with-piece piece.BadToken s line at follows fits h = tt
with-piece piece.NumberPast128 s line at follows fits h = tt

from-ascend : (n line at : ℕ) (s : List ℕ) → n ≤ length s → OkAscend (at + n) (at + length s) (tokens_from n line at s)
unfolding tokens_from OkAscend
from-ascend n line at [] h = tt
from-ascend zero line at (b ∷ rest) h =
    let end : at + 1 + length rest ≡ at + length (b ∷ rest) = omega arith in
    let follows : ℕ → Lexed = λ n. tokens_from n (line_after b line) (at + 1) rest in
    let whole = with-piece (piece_of (b ∷ rest)) (b ∷ rest) line at follows (piece-fits b rest)
    (λ n few. let behind = from-ascend n (line_after b line) (at + 1) rest (omega arith) in rw end at behind) in
    ok-lower (at + 0) at (at + length (b ∷ rest)) _ (omega arith) whole
from-ascend (suc n) line at (b ∷ rest) h =
    let end : at + 1 + length rest ≡ at + length (b ∷ rest) = omega arith in
    let place : at + 1 + n ≡ at + suc n = omega arith in
    let behind = from-ascend n (line_after b line) (at + 1) rest (omega arith) in
    rw (end, place) at behind

-- the tokens of a text stand one behind another, within the text
pub tokens-ascend : (text : List ℕ) (items : List Token) → tokens_behind_mark text ≡ Ok items → Ascend 0 (length text) items
unfolding OkAscend
tokens-ascend text items e =
    let mark = behind-mark text in
    let walk = from-ascend (mark_len text) 1 0 text mark.0 in
    let whole = rw e at walk in
    let end : 0 + length text ≡ length text = zero-add (length text) in
    ascend-lower 0 (0 + mark_len text) (length text) items (omega arith) (rw end at whole)
