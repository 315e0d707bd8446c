-- What is known of the piece at the front of a text.
use Rattle.std.proofs.Common.{◌≡◌, ◌∙◌, ℕ, zero, suc, Bool, true, false, List, [], ◌∷◌, ◌++◌, length, take, drop, ◌+◌, ◌-◌, ◌<◌, ◌≤◌, refl, sym, ap, arith, add-zero, zero-add, get_or, drop-cons, sub-one, inl, inr, Option, Some, None, pos, nat_le}
use Rattle.std.specs.Prelude.{take_while, if◌then◌else◌, ◌==◌, ◌&&◌, ◌||◌}
use Rattle.std.specs.List.{list_all}
use Rattle.std.specs.Char.{is_ascii_digit}
use Rattle.std.proofs.lemmas.Bool.{cases_Bool, eqb-true, and_parts}
use Rattle.std.proofs.lemmas.Bool.Decides.{nat_tests}
use Rattle.std.proofs.lemmas.List.Sums.{take_while-cons}
use Rattle.cel_lexer.proofs.Lines.{first_line, lines_in}
use Rattle.cel_lexer.proofs.LiteralLemmas.{literal-closes}
use Rattle.cel_lexer.specs.Bytes.{is_blank, is_comment_byte, is_first, is_letter, is_line_feed, is_word_byte}
use Rattle.std.specs.Str.Parse.{digits_value}
use Rattle.cel_lexer.specs.Words.{is_keyword, word_piece}
use Rattle.cel_lexer.specs.Numbers.{behind_point, decimal_of, decimal_piece, in_range, number_of, number_or_decimal, number_piece, numeral_piece}
use Rattle.cel_lexer.specs.Literals.{literal_piece, literal_rest}
use Rattle.cel_lexer.specs.Signs.{is_long_sign, is_side, is_sign, mark_piece, sign_piece}
use Rattle.cel_lexer.specs.Pieces.{piece_of}
use Rattle.cel_lexer.specs.declared.token.What.{What}
use Rattle.cel_lexer.specs.declared.token.What.TheVariants as what
use Rattle.cel_lexer.specs.declared.pieces.Piece.{Piece}
use Rattle.cel_lexer.specs.declared.pieces.Piece.TheVariants as piece

-- the run of bytes at the front that pass a test
abbrev pub run : (ℕ → Bool) → List ℕ → ℕ
run p s = length (take_while p s)

-- the piece has bytes of the text, and a line feed only as the one byte that it is
abbrev pub PieceFits : Piece → List ℕ → Type 0
PieceFits (piece.Gap n) s = (0 < n) × (n ≤ length s) × (lines_in (take n s) ≡ first_line s)
PieceFits (piece.Lexeme w n) s = (0 < n) × (n ≤ length s) × (lines_in (take n s) ≡ 0) × (get_or s 0 0 < 128) × (get_or s (n - 1) 0 < 128)
PieceFits piece.BadToken s = Unit {0}
PieceFits piece.NumberPast128 s = Unit {0}

if-both : {X : Type 0} (P : X → Type 0) (c : Bool) (x y : X) → (c ≡ true → P x) → (c ≡ false → P y) → P (if c then x else y)
if-both P true x y h k = h refl
if-both P false x y h k = k refl

run_yes : (p : ℕ → Bool) (b : ℕ) (s : List ℕ) → p b ≡ true → run p (b ∷ s) ≡ suc (run p s)
run_yes p b s h = ap length (take_while-cons p b s) ∙ rw h refl

run_no : (p : ℕ → Bool) (b : ℕ) (s : List ℕ) → p b ≡ false → run p (b ∷ s) ≡ 0
run_no p b s h = ap length (take_while-cons p b s) ∙ rw h refl

run_le : (p : ℕ → Bool) (s : List ℕ) → run p s ≤ length s
run_le p [] = omega arith
run_le p (b ∷ s) = elim (cases_Bool (p b)) [
  | inl here ↦ omega (arith, run_yes p b s here, run_le p s)
  | inr past ↦ omega (arith, run_no p b s past)
]

run_pos : (p : ℕ → Bool) (b : ℕ) (s : List ℕ) → p b ≡ true → 0 < run p (b ∷ s)
run_pos p b s h = omega (arith, run_yes p b s h)

-- the bytes of a run are the run
pub take_run : (p : ℕ → Bool) (s : List ℕ) → take (run p s) s ≡ take_while p s
take_run p [] = refl
take_run p (b ∷ s) = elim (cases_Bool (p b)) [
  | inl here ↦ rw (run_yes p b s here, take_while-cons p b s, here) (ap (λ t. b ∷ t) (take_run p s))
  | inr past ↦ rw (run_no p b s past, take_while-cons p b s, past) refl
]

-- a run of bytes of which none is a line feed has none
run_lines : (p : ℕ → Bool) (s : List ℕ) → p 10 ≡ false → lines_in (take (run p s) s) ≡ 0
run_lines p [] ends = refl
run_lines p (b ∷ s) ends = elim (cases_Bool (p b)) [
  | inl here ↦ elim (cases_Bool (b == 10)) [
    | inl lf ↦ absurd (let e = eqb-true b 10 lf in let h = rw e at here in let k = sym h ∙ ends in cc)
    | inr other ↦ let n = run_yes p b s here in rw (n, other) (zero-add _ ∙ run_lines p s ends)
  ]
  | inr past ↦ let n = run_no p b s past in rw n refl
]

-- the last byte of a run passes its test
run_last : (p : ℕ → Bool) (s : List ℕ) → 0 < run p s → p (get_or s (run p s - 1) 0) ≡ true
run_last p [] some = absurd (omega arith)
run_last p (b ∷ s) some = elim (cases_Bool (p b)) [
  | inl here ↦ rw (run_yes p b s here, sub-one) (last (run p s) refl here (run_last p s))
  | inr past ↦ absurd (omega (arith, run_no p b s past))
]
  where
    last : (n : ℕ) → run p s ≡ n → p b ≡ true → (0 < run p s → p (get_or s (run p s - 1) 0) ≡ true) → p (get_or (b ∷ s) n 0) ≡ true
    last zero e here more = here
    last (suc n) e here more = let h = more (omega arith) in rw (e, sub-one) at h

run_fits : (w : What) (p : ℕ → Bool) (b : ℕ) (rest : List ℕ) → p b ≡ true → p 10 ≡ false → ((c : ℕ) → p c ≡ true → c < 128) → PieceFits (piece.Lexeme w (run p (b ∷ rest))) (b ∷ rest)
run_fits w p b rest here ends ascii = (run_pos p b rest here, run_le p (b ∷ rest), run_lines p (b ∷ rest) ends, ascii b here, ascii _ (run_last p (b ∷ rest) (run_pos p b rest here)))

word_ascii : (c : ℕ) → is_word_byte c ≡ true → c < 128
word_ascii c h = grind (arith, nat_tests)

digit_ascii : (c : ℕ) → is_ascii_digit c ≡ true → c < 128
digit_ascii c h = grind (arith, nat_tests)

sign_ascii : (c : ℕ) → is_sign c ≡ true → c < 128
unfolding is_sign
sign_ascii c h = grind (arith, nat_tests)

-- a byte that passes a test which no line feed passes is none
not_line : (p : ℕ → Bool) (b : ℕ) → p b ≡ true → p 10 ≡ false → (b == 10) ≡ false
not_line p b here ends = elim (cases_Bool (b == 10)) [
  | inl lf ↦ absurd (let e = eqb-true b 10 lf in let h = rw e at here in let k = sym h ∙ ends in cc)
  | inr other ↦ other
]

dash_fits : (b : ℕ) (rest : List ℕ) → b ≡ 45 → PieceFits (piece.Gap (run is_comment_byte (b ∷ rest))) (b ∷ rest)
dash_fits b rest e = rw e (run_pos is_comment_byte 45 rest refl, run_le is_comment_byte (45 ∷ rest), run_lines is_comment_byte (45 ∷ rest) refl)

-- a token of one byte, or of two where the next byte passes a test of ASCII bytes that no line feed passes
short_fits : (w : What) (p : ℕ → Bool) (b : ℕ) (rest : List ℕ) → (b == 10) ≡ false → b < 128 → p 10 ≡ false
    → ((c : ℕ) → p c ≡ true → c < 128) → PieceFits (piece.Lexeme w (if is_first p rest then 2 else 1)) (b ∷ rest)
short_fits w p b [] here low ends ascii = (omega arith, omega arith, rw here refl, low, low)
short_fits w p b (c ∷ rest) here low ends ascii = elim (cases_Bool (p c)) [
  | inl two ↦ rw two (omega arith, omega arith, rw (here, not_line p c two ends) refl, low, ascii c two)
  | inr one ↦ rw one (omega arith, omega arith, rw here refl, low, low)
]

side_ascii : (c : ℕ) → is_side c ≡ true → c < 128
side_ascii c h = grind (arith, nat_tests)

mark_fits : (b : ℕ) (rest : List ℕ) → b ≡ 36 → PieceFits (mark_piece rest) (b ∷ rest)
mark_fits b rest e = rw e (short_fits what.Mark is_side 36 rest refl (omega arith) refl side_ascii)

long_sign_ascii : (b c : ℕ) → is_long_sign b c ≡ true → c < 128
long_sign_ascii b c h = grind (arith, nat_tests)

no_long_line : (b : ℕ) → is_long_sign b 10 ≡ false
no_long_line b = grind (arith, nat_tests)

sign_fits : (b : ℕ) (rest : List ℕ) → PieceFits (sign_piece b rest) (b ∷ rest)
unfolding is_sign
sign_fits b rest =
    if-both (λ p. PieceFits p (b ∷ rest)) (is_sign b) _ _
    (λ sign. short_fits what.Sign (is_long_sign b) b rest (not_line is_sign b sign refl) (sign_ascii b sign) (no_long_line b) (long_sign_ascii b))
    (λ _. tt)

literal_fits : (b : ℕ) (rest : List ℕ) → b ≡ 39 → PieceFits (literal_piece (literal_rest rest)) (b ∷ rest)
literal_fits b rest e = rw e (whole (literal_rest rest) refl)
  where
    whole : (o : Option ℕ) → literal_rest rest ≡ o → PieceFits (literal_piece o) (39 ∷ rest)
    whole None is = tt
    whole (Some zero) is = absurd (omega (arith, (literal-closes rest zero is).some))
    whole (Some (suc n)) is =
        let closes = literal-closes rest (suc n) is in
        let place : suc n + 1 ≡ suc (suc n) = omega arith in
        rw (place, sub-one) (omega arith, omega (arith, closes.in_text), zero-add _ ∙ closes.one_line, omega arith, omega (arith, rw sub-one at closes.quote))

word_fits : (b : ℕ) (rest : List ℕ) → is_letter b ≡ true → PieceFits (word_piece (take_while is_word_byte (b ∷ rest))) (b ∷ rest)
word_fits b rest letter =
    if-both (λ p. PieceFits p (b ∷ rest)) (nat_le (run is_word_byte (b ∷ rest)) 64)
    (piece.Lexeme (if is_keyword (take_while is_word_byte (b ∷ rest)) then what.Keyword else what.Name) (run is_word_byte (b ∷ rest))) piece.BadToken
    (λ _. run_fits (if is_keyword (take_while is_word_byte (b ∷ rest)) then what.Keyword else what.Name) is_word_byte b rest (rw letter refl) refl word_ascii)
    (λ _. tt)

-- a byte of a decimal
is_point_or_digit : ℕ → Bool
is_point_or_digit c = (c == 46) || is_ascii_digit c

point_or_digit_ascii : (c : ℕ) → is_point_or_digit c ≡ true → c < 128
unfolding is_point_or_digit
point_or_digit_ascii c h = grind (arith, nat_tests)

point_or_digit_first : (c : ℕ) → is_ascii_digit c ≡ true → is_point_or_digit c ≡ true
unfolding is_point_or_digit
point_or_digit_first c h = grind (arith, nat_tests)

-- the first byte and the last one of a front whose bytes pass a test pass it, and it has no line feed where none passes
module _ (p : ℕ → Bool) (ends : p 10 ≡ false) where
  front_lines : (n : ℕ) (s : List ℕ) → list_all p (take n s) ≡ true → lines_in (take n s) ≡ 0
  front_lines zero s all = refl
  front_lines (suc n) [] all = refl
  front_lines (suc n) (b ∷ s) all =
      let parts = and_parts (p b) (list_all p (take n s)) all in
      rw (not_line p b parts.0 ends) (zero-add _ ∙ front_lines n s parts.1)

  front_first : (n : ℕ) (s : List ℕ) → 0 < n → n ≤ length s → list_all p (take n s) ≡ true → p (get_or s 0 0) ≡ true
  front_first zero s some le all = absurd (omega arith)
  front_first (suc n) [] some le all = absurd (omega arith)
  front_first (suc n) (b ∷ s) some le all = (and_parts (p b) (list_all p (take n s)) all).0

  front_last : (n : ℕ) (s : List ℕ) → suc n ≤ length s → list_all p (take (suc n) s) ≡ true → p (get_or s n 0) ≡ true
  front_last zero [] le all = absurd (omega arith)
  front_last zero (b ∷ s) le all = (and_parts (p b) true all).0
  front_last (suc n) [] le all = absurd (omega arith)
  front_last (suc n) (b ∷ s) le all = front_last n s (omega arith) (and_parts (p b) (list_all p (take (suc n) s)) all).1

  front_fits : (w : What) (n : ℕ) (s : List ℕ) → suc n ≤ length s → list_all p (take (suc n) s) ≡ true → ((c : ℕ) → p c ≡ true → c < 128) → PieceFits (piece.Lexeme w (suc n)) s
  front_fits w n s le all ascii =
      (omega arith, le, front_lines (suc n) s all, ascii (get_or s 0 0) (front_first (suc n) s (omega arith) le all), rw sub-one (ascii (get_or s n 0) (front_last n s le all)))

-- the bytes of a run of digits are bytes of a decimal
digits_pass : (s : List ℕ) → list_all is_point_or_digit (take (run is_ascii_digit s) s) ≡ true
digits_pass [] = refl
digits_pass (b ∷ s) = elim (cases_Bool (is_ascii_digit b)) [
  | inl here ↦ rw (run_yes is_ascii_digit b s here, point_or_digit_first b here) (digits_pass s)
  | inr past ↦ rw (run_no is_ascii_digit b s past) refl
]

-- so are those of digits, a point and digits, and the text has them
pointed_pass : (s behind : List ℕ) → drop (run is_ascii_digit s) s ≡ 46 ∷ behind
    → (run is_ascii_digit s + suc (run is_ascii_digit behind) ≤ length s) × (list_all is_point_or_digit (take (run is_ascii_digit s + suc (run is_ascii_digit behind)) s) ≡ true)
unfolding is_point_or_digit
pointed_pass [] behind e = absurd cc
pointed_pass (b ∷ s) behind e = elim (cases_Bool (is_ascii_digit b)) [
  | inl here ↦
      let count = run_yes is_ascii_digit b s here in
      let later = pointed_pass s behind (rw count at e) in
      let more : suc (run is_ascii_digit s) + suc (run is_ascii_digit behind) ≡ suc (run is_ascii_digit s + suc (run is_ascii_digit behind)) = omega arith in
      rw (count, more) (omega (arith, later.0), rw (point_or_digit_first b here) later.1)
  | inr past ↦
      let count = run_no is_ascii_digit b s past in
      let same : b ∷ s ≡ 46 ∷ behind = rw count at e in
      let first : b ≡ 46 = cc in
      let rest : s ≡ behind = cc in
      rw (count, zero-add, first, rest) (omega (arith, run_le is_ascii_digit behind), digits_pass behind)
]

-- a point stands before what stands behind it
pointed : (s : List ℕ) → 0 < run is_ascii_digit (behind_point s) → s ≡ 46 ∷ behind_point s
pointed [] some = absurd (omega arith)
pointed (b ∷ s) some = elim (cases_Bool (b == 46)) [
  | inl point ↦ rw point (ap (λ (c : ℕ). c ∷ s) (eqb-true b 46 point))
  | inr other ↦ absurd (let none = rw other at some in omega (arith, none))
]

number_fits : (b : ℕ) (rest : List ℕ) → is_ascii_digit b ≡ true → PieceFits (number_piece (take_while is_ascii_digit (b ∷ rest))) (b ∷ rest)
number_fits b rest digit = by_value (in_range (digits_value 10 (take_while is_ascii_digit (b ∷ rest))))
  where
    by_value : (o : Option ℕ) → PieceFits (number_of o (run is_ascii_digit (b ∷ rest))) (b ∷ rest)
    by_value None = tt
    by_value (Some n) = run_fits (what.Number (pos n)) is_ascii_digit b rest digit refl digit_ascii

decimal_fits : (s : List ℕ) → 0 < run is_ascii_digit (behind_point (drop (run is_ascii_digit s) s)) → PieceFits (decimal_piece (take_while is_ascii_digit s) (take_while is_ascii_digit (behind_point (drop (run is_ascii_digit s) s)))) s
unfolding is_point_or_digit
decimal_fits s some =
    let whole = take_while is_ascii_digit s in
    let behind = behind_point (drop (run is_ascii_digit s) s) in
    let places = take_while is_ascii_digit behind in
    let passed = pointed_pass s behind (pointed (drop (run is_ascii_digit s) s) some) in
    let size : length whole + 1 + length places ≡ suc (length whole + length places) = omega arith in
    let same : length whole + suc (length places) ≡ suc (length whole + length places) = omega arith in
    if-both (λ p. PieceFits p s) (nat_le (length places) 18) _ piece.BadToken
    (λ _. rw size (by_value s (length places) (length whole + length places) (in_range (digits_value 10 (whole ++ places))) (rw same at passed.0) (rw same at passed.1)))
    (λ _. tt)
  where
    by_value : (s : List ℕ) (scale n : ℕ) (o : Option ℕ) → suc n ≤ length s → list_all is_point_or_digit (take (suc n) s) ≡ true → PieceFits (decimal_of o scale (suc n)) s
    by_value s scale n None le all = tt
    by_value s scale n (Some units) le all = front_fits is_point_or_digit refl (what.Decimal scale (pos units)) n s le all point_or_digit_ascii

numeral_fits : (b : ℕ) (rest : List ℕ) → is_ascii_digit b ≡ true → PieceFits (numeral_piece (b ∷ rest)) (b ∷ rest)
unfolding numeral_piece
numeral_fits b rest digit = by_places (take_while is_ascii_digit (behind_point (drop (run is_ascii_digit (b ∷ rest)) (b ∷ rest)))) refl
  where
    by_places : (places : List ℕ) → take_while is_ascii_digit (behind_point (drop (run is_ascii_digit (b ∷ rest)) (b ∷ rest))) ≡ places → PieceFits (number_or_decimal (take_while is_ascii_digit (b ∷ rest)) places) (b ∷ rest)
    by_places [] e = number_fits b rest digit
    by_places (c ∷ places) e = let size = ap length e in rw e at (decimal_fits (b ∷ rest) (omega (arith, size)))

-- the piece at the front of a text fits it
pub piece-fits : (b : ℕ) (rest : List ℕ) → PieceFits (piece_of (b ∷ rest)) (b ∷ rest)
piece-fits b rest =
    if-both P (is_blank b) _ _ (λ blank. (omega arith, omega arith, add-zero _)) (λ _.
    if-both P ((b == 45) && is_first (λ next. next == 45) rest) _ _ (λ dashes. dash_fits b rest (eqb-true b 45 (and_parts (b == 45) (is_first (λ next. next == 45) rest) dashes).0)) (λ _.
    if-both P (is_letter b) _ _ (word_fits b rest) (λ _.
    if-both P (is_ascii_digit b) _ _ (numeral_fits b rest) (λ _.
    if-both P (b == 39) _ _ (λ quote. literal_fits b rest (eqb-true b 39 quote)) (λ _.
    if-both P (b == 36) _ _ (λ dollar. mark_fits b rest (eqb-true b 36 dollar)) (λ _. sign_fits b rest))))))
  where
    P : Piece → Type 0
    P p = PieceFits p (b ∷ rest)

-- so does that of any text that isn't empty
pub fits-at : (s : List ℕ) → 0 < length s → PieceFits (piece_of s) s
fits-at [] h = absurd (omega arith)
fits-at (b ∷ rest) h = piece-fits b rest

-- the first byte ends a line where it is a line feed
pub first_line-at : (s : List ℕ) (i : ℕ) → i < length s → first_line (drop i s) ≡ (if is_line_feed (get_or s i 0) then 1 else 0)
first_line-at s i h = rw (drop-cons s i 0) refl
