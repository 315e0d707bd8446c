-- A walk over a text, a piece at a time.
use Rattle.std.proofs.Common.{◌≡◌, ◌∙◌, ℕ, zero, suc, List, [], ◌∷◌, ◌++◌, length, take, drop, get_or, ◌+◌, ◌-◌, ◌<◌, ◌≤◌, refl, sym, ap, arith, add-zero, zero-add, sub-one, inl, inr, length-drop, nat_eq}
use Rattle.std.specs.Prelude.{Ok, Err, if◌then◌else◌, ◌==◌}
use Rattle.std.specs.List.{starts_with}
use Rattle.std.proofs.lemmas.Bool.{cases_Bool}
use Rattle.std.proofs.lemmas.Slice.Eq.{bytes_eq-Decides}
use Rattle.std.proofs.lemmas.List.{drop-drop, drop_all, length-take}
use Rattle.cel_lexer.proofs.Lines.{first_line, lines_in}
use Rattle.cel_lexer.proofs.Places.{tail-is}
use Rattle.cel_lexer.proofs.PieceLemmas.{PieceFits, first_line-at, fits-at}
use Rattle.cel_lexer.specs.Bytes.{is_line_feed}
use Rattle.cel_lexer.specs.Pieces.{piece_of}
use Rattle.cel_lexer.specs.Tokens.{Lexed, before, byte_order_mark, line_after, mark_len, tokens_behind_mark, tokens_from}
use Rattle.cel_lexer.specs.declared.fault.LexFault.{LexFault}
use Rattle.cel_lexer.specs.declared.fault.LexFault.TheVariants as fault
use Rattle.cel_lexer.specs.declared.token.What.{What}
use Rattle.cel_lexer.specs.declared.token.Token.{Token}
use Rattle.cel_lexer.specs.declared.pieces.Piece.{Piece}
use Rattle.cel_lexer.specs.declared.pieces.Piece.TheVariants as piece

-- these tokens, and then what follows
abbrev pub all_before : List Token → Lexed → Lexed
all_before [] r = r
all_before (t ∷ ts) r = before t (all_before ts r)

-- tokens with one more stand before what that one stands before
pub all_before-append : (ts : List Token) (t : Token) (r : Lexed) → all_before (ts ++ t ∷ []) r ≡ all_before ts (before t r)
all_before-append [] t r = refl
all_before-append (u ∷ ts) t r = ap (before u) (all_before-append ts t r)

-- before no tokens stand the tokens themselves
pub all_before-ok : (ts : List Token) → all_before ts (Ok []) ≡ Ok ts
all_before-ok [] = refl
all_before-ok (t ∷ ts) = ap (before t) (all_before-ok ts)

-- before a fault stands the fault
pub all_before-err : (ts : List Token) (e : LexFault) → all_before ts (Err e) ≡ Err e
all_before-err [] e = refl
all_before-err (t ∷ ts) e = ap (before t) (all_before-err ts e)

line-more : (b line n : ℕ) → line_after b line + n ≡ line + ((if is_line_feed b then 1 else 0) + n)
line-more b line n = elim (cases_Bool (b == 10)) [ inl lf ↦ rw lf (omega arith) | inr other ↦ rw other (omega arith) ]

-- the bytes that are left of a piece are passed over
skip : (n line at : ℕ) (s : List ℕ) → n ≤ length s → tokens_from n line at s ≡ tokens_from 0 (line + lines_in (take n s)) (at + n) (drop n s)
unfolding tokens_from
skip zero line at s h = rw (add-zero, add-zero) refl
skip (suc n) line at [] h = absurd (omega arith)
skip (suc n) line at (b ∷ s) h =
    let more = skip n (line_after b line) (at + 1) s (omega arith) in
    let place : at + 1 + n ≡ at + suc n = omega arith in
    more ∙ rw (line-more b line (lines_in (take n s)), place) refl

-- a gap at the front is passed over
gap : (n line at k : ℕ) (s : List ℕ) → piece_of s ≡ piece.Gap n → 0 < n → n ≤ length s → lines_in (take n s) ≡ k
    → tokens_from 0 line at s ≡ tokens_from 0 (line + k) (at + n) (drop n s)
unfolding tokens_from
gap n line at k [] e some h lines = absurd (omega arith)
gap zero line at k (b ∷ s) e some h lines = absurd (omega arith)
gap (suc n) line at k (b ∷ s) e some h lines = rw e (rw sub-one (skip (suc n) line at (b ∷ s) h ∙ rw lines refl))

-- a token at the front comes before what follows it
pub lexeme : (w : What) (n line at : ℕ) (s : List ℕ) → piece_of s ≡ piece.Lexeme w n → 0 < n → n ≤ length s → lines_in (take n s) ≡ 0
    → tokens_from 0 line at s ≡ before (record { what = w; line = line; begin = at; end = at + n }) (tokens_from 0 line (at + n) (drop n s))
unfolding tokens_from
lexeme w n line at [] e some h lines = absurd (omega arith)
lexeme w zero line at (b ∷ s) e some h lines = absurd (omega arith)
lexeme w (suc n) line at (b ∷ s) e some h lines = rw e (ap (before _) (rw sub-one (skip (suc n) line at (b ∷ s) h ∙ rw (lines, add-zero) refl)))

-- no token at the front is a fault
bad : (line at : ℕ) (s : List ℕ) → 0 < length s → piece_of s ≡ piece.BadToken → tokens_from 0 line at s ≡ Err (fault.BadToken line)
unfolding tokens_from
bad line at [] some e = absurd (omega arith)
bad line at (b ∷ s) some e = rw e refl

-- a number that is too large is a fault
past : (line at : ℕ) (s : List ℕ) → 0 < length s → piece_of s ≡ piece.NumberPast128 → tokens_from 0 line at s ≡ Err (fault.NumberPast128 line)
unfolding tokens_from
past line at [] some e = absurd (omega arith)
past line at (b ∷ s) some e = rw e refl

-- what is known of a piece that stands at a place of a text
place-fits : (s : List ℕ) (i : ℕ) (p : Piece) → i < length s → p ≡ piece_of (take (length s - i) (drop i s)) → (p ≡ piece_of (drop i s)) × PieceFits p (drop i s)
place-fits s i p h e =
    let here = e ∙ ap piece_of (tail-is s i) in
    let some : 0 < length (drop i s) = omega (arith, length-drop i s) in
    (here, rw here (fits-at (drop i s) some))

-- the mark at the front has three bytes of which none is a line feed
mark_fits : (s : List ℕ) → (mark_len s ≤ length s) × (lines_in (take (mark_len s) s) ≡ 0)
mark_fits s = elim (cases_Bool (starts_with nat_eq s byte_order_mark)) [
  | inl there ↦
      let front : byte_order_mark ≡ take 3 s = (bytes_eq-Decides byte_order_mark (take 3 s)).0 there in
      rw there (omega (arith, ap length front, length-take 3 s), rw (← front) refl)
  | inr none ↦ rw none (omega arith, refl)
]

-- a walk begins behind the mark
pub behind-mark : (s : List ℕ) → (mark_len s ≤ length s) × (tokens_behind_mark s ≡ tokens_from 0 1 (mark_len s) (drop (mark_len s) s))
behind-mark s =
    let (le, lines) = mark_fits s in
    (le, skip (mark_len s) 1 0 s le ∙ rw (lines, zero-add) refl)

-- a gap at a place of a text moves the walk behind it
pub past-gap : (s : List ℕ) (i line n : ℕ) (found : List Token) (k : ℕ) → i < length s
    → piece.Gap n ≡ piece_of (take (length s - i) (drop i s))
    → tokens_behind_mark s ≡ all_before found (tokens_from 0 line i (drop i s))
    → k ≡ (if is_line_feed (get_or s i 0) then 1 else 0)
    → (i + n ≤ length s) × (0 < n) × (tokens_behind_mark s ≡ all_before found (tokens_from 0 (line + k) (i + n) (drop (i + n) s)))
past-gap s i line n found k h e whole lf =
    let known = place-fits s i (piece.Gap n) h e in
    let (some, le, lines) = known.1 in
    let step = gap n line i (first_line (drop i s)) (drop i s) (sym known.0) some le lines in
    let moved = rw (drop-drop n i s, first_line-at s i h, ← lf) at step in
    (omega (arith, length-drop i s), some, whole ∙ ap (all_before found) moved)

-- a token at a place of a text goes behind those found, and moves the walk behind it
pub past-lexeme : (s : List ℕ) (i line n : ℕ) (w : What) (found : List Token) → i < length s
    → piece.Lexeme w n ≡ piece_of (take (length s - i) (drop i s))
    → tokens_behind_mark s ≡ all_before found (tokens_from 0 line i (drop i s))
    → (i + n ≤ length s) × (0 < n)
    × (tokens_behind_mark s ≡ all_before (found ++ (record { what = w; line = line; begin = i; end = i + n }) ∷ []) (tokens_from 0 line (i + n) (drop (i + n) s)))
    × (get_or (drop i s) 0 0 < 128) × (get_or (drop i s) (n - 1) 0 < 128)
past-lexeme s i line n w found h e whole =
    let known = place-fits s i (piece.Lexeme w n) h e in
    let (some, le, lines, first, last) = known.1 in
    let step = lexeme w n line i (drop i s) (sym known.0) some le lines in
    let moved = rw (drop-drop n i s) at step in
    (omega (arith, length-drop i s), some, whole ∙ ap (all_before found) moved ∙ sym (all_before-append found _ _), first, last)

-- a place with no token ends the walk
pub at-bad : (s : List ℕ) (i line : ℕ) (found : List Token) → i < length s
    → piece.BadToken ≡ piece_of (take (length s - i) (drop i s))
    → tokens_behind_mark s ≡ all_before found (tokens_from 0 line i (drop i s)) → tokens_behind_mark s ≡ Err (fault.BadToken line)
at-bad s i line found h e whole =
    let here = e ∙ ap piece_of (tail-is s i) in
    let some : 0 < length (drop i s) = omega (arith, length-drop i s) in
    whole ∙ ap (all_before found) (bad line i (drop i s) some (sym here)) ∙ all_before-err found _

-- so does a place with a number that is too large
pub at-past : (s : List ℕ) (i line : ℕ) (found : List Token) → i < length s
    → piece.NumberPast128 ≡ piece_of (take (length s - i) (drop i s))
    → tokens_behind_mark s ≡ all_before found (tokens_from 0 line i (drop i s)) → tokens_behind_mark s ≡ Err (fault.NumberPast128 line)
at-past s i line found h e whole =
    let here = e ∙ ap piece_of (tail-is s i) in
    let some : 0 < length (drop i s) = omega (arith, length-drop i s) in
    whole ∙ ap (all_before found) (past line i (drop i s) some (sym here)) ∙ all_before-err found _

-- the end of the text ends the walk
pub at-end : (s : List ℕ) (i line : ℕ) (found : List Token) → length s ≤ i
    → tokens_behind_mark s ≡ all_before found (tokens_from 0 line i (drop i s)) → tokens_behind_mark s ≡ Ok found
unfolding tokens_from
at-end s i line found h whole = (rw (drop_all i s h) at whole) ∙ all_before-ok found
