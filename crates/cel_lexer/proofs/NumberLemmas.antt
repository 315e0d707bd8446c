-- Numbers from their digits, a digit at a time.
use Rattle.std.proofs.Common.{◌≡◌, ◌∙◌, ℕ, suc, ◌+◌, ◌*◌, ◌-◌, ◌^◌, ◌≤◌, ◌<◌, true, false, inl, inr, Some, None, List, [], ◌∷◌, ◌++◌, length, drop, get_or, refl, sym, ap, arith, drop-cons, add-one, nat_lt}
use Rattle.std.specs.Prelude.{take_while}
use Rattle.std.specs.Char.{digit_value, is_ascii_digit}
use Rattle.std.specs.Str.Parse.{digits_value_after}
use Rattle.std.proofs.lemmas.Str.{digit_value_digit}
use Rattle.std.proofs.lemmas.Bool.{cases_Bool}
use Rattle.std.proofs.lemmas.Bool.Decides.{nat_tests}
use Rattle.std.proofs.lemmas.List.Sums.{take_while-cons}
use Rattle.cel_lexer.specs.Numbers.{in_range}

-- more digits make no number smaller
pub value_after_le : (n : ℕ) (digits : List ℕ) → n ≤ digits_value_after 10 n digits
value_after_le n [] = omega arith
value_after_le n (c ∷ digits) = omega (arith, value_after_le (n * 10 + digit_value c) digits)

-- the value of a digit is its distance from `0`, at most 9
pub digit_value_is : (c : ℕ) → is_ascii_digit c ≡ true → (digit_value c ≡ c - 48) × (c - 48 ≤ 9)
digit_value_is c digit =
    let low : 48 ≤ c = grind (arith, nat_tests) in
    let high : c ≤ 57 = grind (arith, nat_tests) in
    let value = digit_value_digit c (low, high) in
    (omega arith, omega arith)

-- the run of digits at a place, by the byte there
pub digits_at_digit : (s : List ℕ) (i : ℕ) → i < length s → is_ascii_digit (get_or s i 0) ≡ true
    → take_while is_ascii_digit (drop i s) ≡ get_or s i 0 ∷ take_while is_ascii_digit (drop (i + 1) s)
digits_at_digit s i h digit = rw (drop-cons s i 0, add-one) (take_while-cons is_ascii_digit (get_or s i 0) (drop (suc i) s) ∙ rw digit refl)

-- a byte behind the digits is none
pub digits_at_other : (s : List ℕ) (i : ℕ) → i < length s → is_ascii_digit (get_or s i 0) ≡ false
    → take_while is_ascii_digit (drop i s) ≡ []
digits_at_other s i h other = rw (drop-cons s i 0) (take_while-cons is_ascii_digit (get_or s i 0) (drop (suc i) s) ∙ rw other refl)

-- a digit at a place goes behind those before it
pub digit-step : (s : List ℕ) (i value : ℕ) → i < length s → is_ascii_digit (get_or s i 0) ≡ true
    → digits_value_after 10 value (take_while is_ascii_digit (drop i s))
    ≡ digits_value_after 10 (value * 10 + (get_or s i 0 - 48)) (take_while is_ascii_digit (drop (i + 1) s))
digit-step s i value h digit =
    ap (digits_value_after 10 value) (digits_at_digit s i h digit)
    ∙ ap (λ d. digits_value_after 10 (value * 10 + d) (take_while is_ascii_digit (drop (i + 1) s))) (digit_value_is (get_or s i 0) digit).0

-- a number below 2^127 is in range
pub in_range-low : (n : ℕ) → n < 2 ^ 127 → in_range n ≡ Some n
in_range-low n low = let fits : nat_lt n (2 ^ 127) ≡ true = grind (arith, nat_tests) in rw fits refl

-- a greater one isn't
pub in_range-high : (n : ℕ) → 2 ^ 127 ≤ n → in_range n ≡ None
in_range-high n high = let past : nat_lt n (2 ^ 127) ≡ false = grind (arith, nat_tests) in rw past refl

-- what is in range is the number, which is below 2^127
pub in_range-some : (n m : ℕ) → Some m ≡ in_range n → (m ≡ n) × (m < 2 ^ 127)
in_range-some n m e = elim (cases_Bool (nat_lt n (2 ^ 127))) [
  | inl fits ↦ let same : m ≡ n = (let here = rw fits at e in cc) in (same, omega (arith, same, nat_lt-true n fits))
  | inr past ↦ absurd (let here = rw past at e in cc)
]
  where
    nat_lt-true : (n : ℕ) → nat_lt n (2 ^ 127) ≡ true → n < 2 ^ 127
    nat_lt-true n h = grind (arith, nat_tests)

-- what isn't in range is 2^127 or more
pub in_range-none : (n : ℕ) → None ≡ in_range n → 2 ^ 127 ≤ n
in_range-none n e = elim (cases_Bool (nat_lt n (2 ^ 127))) [
  | inl fits ↦ absurd (let here = rw fits at e in cc)
  | inr past ↦ high n past
]
  where
    high : (n : ℕ) → nat_lt n (2 ^ 127) ≡ false → 2 ^ 127 ≤ n
    high n h = grind (arith, nat_tests)

-- the digits behind others go on with their number
pub value_after-append : (n : ℕ) (front behind : List ℕ) → digits_value_after 10 n (front ++ behind) ≡ digits_value_after 10 (digits_value_after 10 n front) behind
value_after-append n [] behind = refl
value_after-append n (c ∷ front) behind = value_after-append (n * 10 + digit_value c) front behind

-- where the digits in front are in range, all of them are where the others take their number no further
pub range_more : (front behind : List ℕ) (n : ℕ) → Some n ≡ in_range (digits_value_after 10 0 front) → in_range (digits_value_after 10 n behind) ≡ in_range (digits_value_after 10 0 (front ++ behind))
range_more front behind n some =
    let same = in_range-some (digits_value_after 10 0 front) n some in
    ap (λ m. in_range (digits_value_after 10 m behind)) same.0 ∙ ap in_range (sym (value_after-append 0 front behind))

-- and where they aren't, no more digits are
pub range_none : (front behind : List ℕ) → None ≡ in_range (digits_value_after 10 0 front) → None ≡ in_range (digits_value_after 10 0 (front ++ behind))
range_none front behind none =
    let n = digits_value_after 10 0 front in
    let high = in_range-none n none in
    let more = value_after_le n behind in
    sym (in_range-high (digits_value_after 10 n behind) (omega (arith, high, more))) ∙ ap in_range (sym (value_after-append 0 front behind))
