-- A name is the one token of its text.
use Rattle.std.proofs.Common.{◌≡◌, ◌∙◌, ℕ, zero, suc, ◌+◌, ◌-◌, ◌<◌, ◌≤◌, true, List, [], ◌∷◌, length, take, drop, get_or, refl, sym, ap, arith, zero-add, inl, inr, nat_eq, Ok, Err, IsTrue, ◌↔◌}
use Rattle.std.specs.Prelude.{IsUtf8}
use Rattle.std.specs.List.{starts_with}
use Rattle.std.proofs.lemmas.Bool.{cases_Bool, eqb-true}
use Rattle.std.proofs.lemmas.Bool.Decides.{Decides-eqb}
use Rattle.std.proofs.lemmas.List.{drop_all}
use Rattle.std.proofs.lemmas.Slice.Eq.{bytes_eq-Decides}
use Rattle.cel_lexer.proofs.FaultLemmas.{tokens_of-utf8}
use Rattle.cel_lexer.proofs.PieceLemmas.{PieceFits, fits-at}
use Rattle.cel_lexer.proofs.WalkLemmas.{behind-mark, lexeme}
use Rattle.cel_lexer.specs.Faults.{tokens_of}
use Rattle.cel_lexer.specs.Names.{is_name, is_name_of, name_over}
use Rattle.cel_lexer.specs.Pieces.{piece_of}
use Rattle.cel_lexer.specs.Tokens.{Lexed, before, byte_order_mark, line_after, mark_len, tokens_behind_mark, tokens_from, with_piece}
use Rattle.cel_lexer.specs.declared.token.What.TheVariants as what
use Rattle.cel_lexer.specs.declared.token.Token.{Token}
use Rattle.cel_lexer.specs.declared.pieces.Piece.{Piece}
use Rattle.cel_lexer.specs.declared.pieces.Piece.TheVariants as piece

-- a piece that is a name of so many bytes
name_piece : (len : ℕ) (p : Piece) → is_name_of len p ≡ true → p ≡ piece.Lexeme what.Name len
name_piece len (piece.Gap n) e = absurd cc
name_piece len (piece.Lexeme what.Keyword n) e = absurd cc
name_piece len (piece.Lexeme what.Name n) e = ap (piece.Lexeme what.Name) (eqb-true n len e)
name_piece len (piece.Lexeme (what.Number value) n) e = absurd cc
name_piece len (piece.Lexeme what.Quoted n) e = absurd cc
name_piece len (piece.Lexeme what.Mark n) e = absurd cc
name_piece len (piece.Lexeme what.Sign n) e = absurd cc
name_piece len (piece.Lexeme (what.Decimal scale units) n) e = absurd cc
name_piece len piece.BadToken e = absurd cc
name_piece len piece.NumberPast128 e = absurd cc

-- the first byte of the mark isn't ASCII
no_front : (text : List ℕ) → get_or text 0 0 < 128 → byte_order_mark ≡ take 3 text → ⊥
no_front [] low e = absurd cc
no_front (b ∷ rest) low e = let first : 0xEF ≡ b = cc in omega (arith, first)

-- so no mark stands before an ASCII byte
no_mark : (text : List ℕ) → get_or text 0 0 < 128 → mark_len text ≡ 0
no_mark text low = elim (cases_Bool (starts_with nat_eq text byte_order_mark)) [
  | inl there ↦ absurd (no_front text low ((bytes_eq-Decides byte_order_mark (take 3 text)).0 there))
  | inr none ↦ rw none refl
]

-- the token before others is the first
first_token : (token : Token) (found : Lexed) (t : Token) (ts : List Token) → before token found ≡ Ok (t ∷ ts) → token ≡ t
first_token token (Ok tokens) t ts e = cc
first_token token (Err fault) t ts e = absurd cc

-- the first token begins at the piece or later where what follows begins behind its first byte
piece_begins : (p : Piece) (line at : ℕ) (follows : ℕ → Lexed) (t : Token) (ts : List Token) → ((n : ℕ) → follows n ≡ Ok (t ∷ ts) → at + 1 ≤ t.begin) → with_piece p line at follows ≡ Ok (t ∷ ts) → at ≤ t.begin
piece_begins (piece.Gap n) line at follows t ts later e = omega (arith, later (n - 1) e)
piece_begins (piece.Lexeme w n) line at follows t ts later e = omega (arith, ap (λ (token : Token). token.begin) (first_token _ _ t ts e))
piece_begins piece.BadToken line at follows t ts later e = absurd cc
piece_begins piece.NumberPast128 line at follows t ts later e = absurd cc

-- the first token of a walk begins there or later: by induction on the bytes
begins_later : (n line at : ℕ) (text : List ℕ) (t : Token) (ts : List Token) → tokens_from n line at text ≡ Ok (t ∷ ts) → at ≤ t.begin
unfolding tokens_from
begins_later n line at [] t ts e = absurd cc
begins_later zero line at (b ∷ rest) t ts e =
    piece_begins (piece_of (b ∷ rest)) line at (λ n. tokens_from n (line_after b line) (at + 1) rest) t ts (λ n. begins_later n (line_after b line) (at + 1) rest t ts) e
begins_later (suc n) line at (b ∷ rest) t ts e = omega (arith, begins_later n (line_after b line) (at + 1) rest t ts e)

-- a first token that begins where the walk does is the piece there
first_piece : (line at : ℕ) (text : List ℕ) (t : Token) (ts : List Token) → tokens_from 0 line at text ≡ Ok (t ∷ ts) → t.begin ≡ at → piece_of text ≡ piece.Lexeme t.what (t.end - at)
unfolding tokens_from
first_piece line at [] t ts e here = absurd cc
first_piece line at (b ∷ rest) t ts e here = by_piece (piece_of (b ∷ rest)) e
  where
    by_piece : (p : Piece) → with_piece p line at (λ n. tokens_from n (line_after b line) (at + 1) rest) ≡ Ok (t ∷ ts) → p ≡ piece.Lexeme t.what (t.end - at)
    by_piece (piece.Gap n) e = absurd (let later = begins_later (n - 1) (line_after b line) (at + 1) rest t ts e in omega (arith, later, here))
    by_piece (piece.Lexeme w n) e =
        let whole = first_token _ _ t ts e in
        let kind : w ≡ t.what = ap (λ (token : Token). token.what) whole in
        let end : at + n ≡ t.end = ap (λ (token : Token). token.end) whole in
        let size : n ≡ t.end - at = omega (arith, end) in
        rw (← kind, ← size) refl
    by_piece piece.BadToken e = absurd cc
    by_piece piece.NumberPast128 e = absurd cc

-- a text that is a name has this token alone
has_token : (word : List ℕ) → IsUtf8 word → is_name word ≡ true → tokens_of word ≡ Ok (name_over word ∷ [])
unfolding tokens_from
has_token word utf8 e =
    let named = name_piece (length word) (piece_of word) e in
    let (some, le, lines, first, last) : PieceFits (piece.Lexeme what.Name (length word)) word = fits word named in
    let front = no_mark word first in
    let walk : tokens_behind_mark word ≡ tokens_from 0 1 0 word = rw front refl in
    let one = lexeme what.Name (length word) 1 0 word named some le lines in
    let behind : drop (length word) word ≡ [] = drop_all (length word) word le in
    tokens_of-utf8 word utf8 ∙ walk ∙ (rw (behind, zero-add) at one)
  where
    fits : (word : List ℕ) → piece_of word ≡ piece.Lexeme what.Name (length word) → PieceFits (piece.Lexeme what.Name (length word)) word
    fits [] named = absurd cc
    fits (b ∷ rest) named = let whole = fits-at (b ∷ rest) (omega arith) in rw named at whole

-- and one that has this token alone is a name
is_token : (word : List ℕ) → IsUtf8 word → tokens_of word ≡ Ok (name_over word ∷ []) → is_name word ≡ true
is_token word utf8 e =
    let behind = behind-mark word in
    let walk = sym behind.1 ∙ sym (tokens_of-utf8 word utf8) ∙ e in
    let front : mark_len word ≡ 0 = omega (arith, begins_later 0 1 (mark_len word) (drop (mark_len word) word) (name_over word) [] walk) in
    let from_start : tokens_from 0 1 0 word ≡ Ok (name_over word ∷ []) = rw front at walk in
    let named = first_piece 1 0 word (name_over word) [] from_start refl in
    let size : length word - 0 ≡ length word = omega arith in
    rw (named, size) ((Decides-eqb (length word) (length word)).1 refl)

-- a word is a name exactly where its one token is a name that has all its bytes
pub one_token : (word : List ℕ) → IsUtf8 word → IsTrue (is_name word) ↔ (tokens_of word ≡ Ok (name_over word ∷ []))
one_token word utf8 = (has_token word utf8, is_token word utf8)
