-- Bytes at the front of a text. No public clause cites it.
use Rattle.std.proofs.Common.{◌≡◌, ◌∙◌, ℕ, Bool, true, false, List, [], ◌∷◌, ◌++◌, length, drop, refl, ap, arith}
use Rattle.std.specs.Prelude.{◌==◌, ◌&&◌, ◌||◌, take_while, cond}
use Rattle.std.specs.Char.{is_ascii_digit}
use Rattle.std.proofs.lemmas.Bool.Decides.{nat_tests}
use Rattle.std.proofs.lemmas.List.Sums.{take_while-cons}
use Rattle.cel_lexer.specs.Bytes.{is_blank, is_comment_byte, is_first, is_letter, is_word_byte}
use Rattle.cel_lexer.specs.Signs.{is_long_sign, is_side}

-- each byte passes the test
abbrev pub passes : (ℕ → Bool) → List ℕ → Bool
passes p [] = true
passes p (b ∷ s) = p b && passes p s

-- both tests pass
pub both_true : (a b : Bool) → (a && b) ≡ true → (a ≡ true) × (b ≡ true)
both_true true b h = (refl, h)
both_true false b h = cc

-- two texts pass where each does
pub passes_append : (p : ℕ → Bool) (u v : List ℕ) → passes p u ≡ true → passes p v ≡ true → passes p (u ++ v) ≡ true
passes_append p [] v h k = k
passes_append p (b ∷ u) v h k = let parts = both_true (p b) (passes p u) h in rw parts.0 (passes_append p u v parts.1 k)

-- the run of bytes that pass is all of them, where the next one fails
pub run_is : (p : ℕ → Bool) (u rest : List ℕ) → passes p u ≡ true → is_first p rest ≡ false → take_while p (u ++ rest) ≡ u
run_is p [] [] h stop = refl
run_is p [] (c ∷ rest) h stop = take_while-cons p c rest ∙ rw stop refl
run_is p (b ∷ u) rest h stop =
    let parts = both_true (p b) (passes p u) h in
    take_while-cons p b (u ++ rest) ∙ rw parts.0 (ap (λ (s : List ℕ). b ∷ s) (run_is p u rest parts.1 stop))

run_case : (p : ℕ → Bool) (b : ℕ) (s : List ℕ) → passes p (take_while p s) ≡ true → (c : Bool) → p b ≡ c → passes p (cond c (b ∷ take_while p s) []) ≡ true
run_case p b s later true e = rw e later
run_case p b s later false e = refl

-- the bytes of a run pass
pub run_passes : (p : ℕ → Bool) (s : List ℕ) → passes p (take_while p s) ≡ true
run_passes p [] = refl
run_passes p (b ∷ s) = rw (take_while-cons p b s) (run_case p b s (run_passes p s) (p b) refl)

-- a byte that may go on with a word, a literal, a sign or a comment
abbrev pub goes_on : ℕ → Bool
goes_on b = is_word_byte b || (b == 39) || (b == 45) || (b == 61) || (b == 62)

-- the text begins with no such byte
abbrev pub IsStop : List ℕ → Type 0
IsStop s = is_first goes_on s ≡ false

-- so it begins with none of some of them
pub stops : (p : ℕ → Bool) (s : List ℕ) → ((c : ℕ) → goes_on c ≡ false → p c ≡ false) → IsStop s → is_first p s ≡ false
stops p [] h stop = refl
stops p (c ∷ s) h stop = h c stop

-- a byte at which a token ends is none of a word
pub no_word : (c : ℕ) → goes_on c ≡ false → is_word_byte c ≡ false
no_word c h = grind (arith, nat_tests)

-- nor a digit
pub no_digit : (c : ℕ) → goes_on c ≡ false → is_ascii_digit c ≡ false
no_digit c h = grind (arith, nat_tests)

-- nor a mark of a side
pub no_side : (c : ℕ) → goes_on c ≡ false → is_side c ≡ false
no_side c h = grind (arith, nat_tests)

-- nor a dash
pub no_dash : (c : ℕ) → goes_on c ≡ false → (c == 45) ≡ false
no_dash c h = grind (arith, nat_tests)

-- nor a quote
pub no_quote : (c : ℕ) → goes_on c ≡ false → (c == 39) ≡ false
no_quote c h = grind (arith, nat_tests)

-- nor does it make `<` longer
pub no_less : (c : ℕ) → goes_on c ≡ false → is_long_sign 60 c ≡ false
no_less c h = grind (arith, nat_tests)

-- nor `>`
pub no_more : (c : ℕ) → goes_on c ≡ false → is_long_sign 62 c ≡ false
no_more c h = grind (arith, nat_tests)

-- what a letter is not
pub letter_is : (b : ℕ) → is_letter b ≡ true → (is_blank b ≡ false) × ((b == 45) ≡ false)
letter_is b h = (grind (arith, nat_tests), grind (arith, nat_tests))

-- what a digit is not
pub digit_is : (b : ℕ) → is_ascii_digit b ≡ true → (is_blank b ≡ false) × ((b == 45) ≡ false) × (is_letter b ≡ false)
digit_is b h = (grind (arith, nat_tests), grind (arith, nat_tests), grind (arith, nat_tests))

-- no byte of a word ends a line
pub word_comment : (b : ℕ) → is_word_byte b ≡ true → is_comment_byte b ≡ true
word_comment b h = grind (arith, nat_tests)

-- a digit may stand in a comment
pub digit_comment : (b : ℕ) → is_ascii_digit b ≡ true → is_comment_byte b ≡ true
digit_comment b h = grind (arith, nat_tests)

-- what passes a test passes a wider one
pub passes_more : (p q : ℕ → Bool) → ((b : ℕ) → p b ≡ true → q b ≡ true) → (u : List ℕ) → passes p u ≡ true → passes q u ≡ true
passes_more p q wider [] h = refl
passes_more p q wider (b ∷ u) h = let parts = both_true (p b) (passes p u) h in rw (wider b parts.0) (passes_more p q wider u parts.1)

-- what stands behind the front of a source
pub drop_front : (front s : List ℕ) → drop (length front) (front ++ s) ≡ s
drop_front [] s = refl
drop_front (b ∷ front) s = drop_front front s
