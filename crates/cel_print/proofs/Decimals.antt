-- Decimals of the canonical text: digits, a point and digits. No public clause cites it.
use Rattle.std.proofs.Common.{◌≡◌, ◌∙◌, ℕ, zero, suc, ◌+◌, ◌*◌, ◌-◌, ◌≤◌, ◌<◌, ◌^◌, true, false, List, [], ◌∷◌, ◌++◌, length, drop, refl, sym, ap, arith, append_assoc, append-nil, length-append}
use Rattle.std.specs.Prelude.{◌/◌, ◌%◌, ◌==◌, decimal, take_while}
use Rattle.std.specs.Char.{digit_value, is_ascii_digit}
use Rattle.std.specs.Str.Parse.{AllDigits, digits_value, digits_value_after}
use Rattle.std.proofs.lemmas.Bool.Decides.{nat_tests}
use Rattle.std.proofs.lemmas.Fmt.{decimal_is_IsNumeral_wide}
use Rattle.std.proofs.lemmas.Str.Parse.{digit_from_value}
use Rattle.semantics.specs.Report.{with_point}
use Rattle.cel_lexer.specs.Bytes.{is_first}
use Rattle.cel_lexer.specs.Numbers.{behind_point, decimal_piece, number_or_decimal, number_piece, numeral_piece}
use Rattle.cel_lexer.proofs.NumberLemmas.{digit_value_is, value_after-append}
use Rattle.cel_print.proofs.Bytes.{drop_front, passes, passes_append, run_is}

-- a digit's byte
digit_byte : (c : ℕ) → digit_value c < 10 → is_ascii_digit c ≡ true
digit_byte c h = let range = digit_from_value c h in grind (arith, nat_tests, range.0, range.1)

-- decimal digits are digits
pub digits_pass : (u : List ℕ) → AllDigits 10 u → passes is_ascii_digit u ≡ true
digits_pass [] h = refl
digits_pass (c ∷ u) h = rw (digit_byte c h.0) (digits_pass u h.1)

-- a text is digits, a point and so many digits, which write a number together
pub record IsPointed (scale n : ℕ) (text : List ℕ) : Type 0 where
  pub front : List ℕ
  pub places : List ℕ
  pub is : text ≡ front ++ (46 ∷ places)
  pub front_pass : passes is_ascii_digit front ≡ true
  pub some : 0 < length front
  pub places_pass : passes is_ascii_digit places ≡ true
  pub size : length places ≡ scale
  pub value : digits_value 10 (front ++ places) ≡ n

-- the last digit of a number
last_byte : (n : ℕ) → is_ascii_digit (48 + n % 10) ≡ true
last_byte n = let small : n % 10 < 10 = omega arith in grind (arith, nat_tests, small)

-- the number with one more digit
with_last : (n : ℕ) (digits : List ℕ) → digits_value 10 digits ≡ n / 10 → digits_value 10 (digits ++ ((48 + n % 10) ∷ [])) ≡ n
with_last n digits e =
    let digit = digit_value_is (48 + n % 10) (last_byte n) in
    let last : digit_value (48 + n % 10) ≡ n % 10 = omega (arith, digit.0) in
    let all : n / 10 * 10 + n % 10 ≡ n = omega arith in
    value_after-append 0 digits ((48 + n % 10) ∷ []) ∙ (λ i. e i * 10 + last i) ∙ all

-- a number with a point before its last digits is such a text
pub pointed : (scale n : ℕ) → n < 2 ^ 127 → IsPointed scale n (with_point scale n)
pointed zero n low =
    let numeral = decimal_is_IsNumeral_wide n (omega (arith, low)) in
    record {
      front = decimal n;
      places = [];
      is = refl;
      front_pass = digits_pass (decimal n) numeral.0.1;
      some = numeral.0.0;
      places_pass = refl;
      size = refl;
      value = rw append-nil numeral.1;
    }
pointed (suc scale) n low =
    let before = pointed scale (n / 10) (omega (arith, low)) in
    let digit = 48 + n % 10 in
    record {
      front = before.front;
      places = before.places ++ (digit ∷ []);
      is = ap (λ (t : List ℕ). t ++ (digit ∷ [])) before.is ∙ append_assoc before.front (46 ∷ before.places) (digit ∷ []);
      front_pass = before.front_pass;
      some = before.some;
      places_pass = passes_append is_ascii_digit before.places (digit ∷ []) before.places_pass (rw (last_byte n) refl);
      size = length-append before.places (digit ∷ []) ∙ omega (arith, before.size);
      value = ap (digits_value 10) (sym (append_assoc before.front before.places (digit ∷ []))) ∙ with_last n (before.front ++ before.places) before.value;
    }

-- the text begins with no point
abbrev pub NoPoint : List ℕ → Type 0
NoPoint s = is_first (λ c. c == 46) s ≡ false

-- behind what begins with no point stands nothing
nothing_behind : (s : List ℕ) → NoPoint s → behind_point s ≡ []
nothing_behind [] h = refl
nothing_behind (b ∷ s) h = rw h refl

-- what is cut off where digits stand, and behind them what stands there
abbrev by_whole : List ℕ → List ℕ → List ℕ
by_whole text whole = take_while is_ascii_digit (behind_point (drop (length whole) text))

-- digits before no digit and no point are a whole number
pub numeral_whole : (u rest : List ℕ) → passes is_ascii_digit u ≡ true → is_first is_ascii_digit rest ≡ false → NoPoint rest → numeral_piece (u ++ rest) ≡ number_piece u
unfolding numeral_piece
numeral_whole u rest all stop point =
    ap (λ whole. number_or_decimal whole (by_whole (u ++ rest) whole)) (run_is is_ascii_digit u rest all stop)
    ∙ ap (λ (s : List ℕ). number_or_decimal u (take_while is_ascii_digit (behind_point s))) (drop_front u rest)
    ∙ ap (λ (s : List ℕ). number_or_decimal u (take_while is_ascii_digit s)) (nothing_behind rest point)

-- with digits behind a point it is a decimal
some_places : (front places : List ℕ) → 0 < length places → number_or_decimal front places ≡ decimal_piece front places
some_places front [] some = absurd (omega arith)
some_places front (c ∷ places) some = refl

-- digits, a point and digits before no digit are a decimal
pub numeral_pointed : (front places rest : List ℕ) → passes is_ascii_digit front ≡ true → passes is_ascii_digit places ≡ true → 0 < length places → is_first is_ascii_digit rest ≡ false → numeral_piece ((front ++ (46 ∷ places)) ++ rest) ≡ decimal_piece front places
unfolding numeral_piece
numeral_pointed front places rest all more some stop =
    ap numeral_piece (append_assoc front (46 ∷ places) rest)
    ∙ ap (λ whole. number_or_decimal whole (by_whole (front ++ (46 ∷ (places ++ rest))) whole)) (run_is is_ascii_digit front (46 ∷ (places ++ rest)) all refl)
    ∙ ap (λ (s : List ℕ). number_or_decimal front (take_while is_ascii_digit (behind_point s))) (drop_front front (46 ∷ (places ++ rest)))
    ∙ ap (number_or_decimal front) (run_is is_ascii_digit places rest more stop) ∙ some_places front places some
