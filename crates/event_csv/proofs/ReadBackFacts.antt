-- Numbers and decimals are read from what is written of them.
use Rattle.std.proofs.Common.{◌≡◌, ◌∙◌, ℕ, zero, suc, ◌+◌, ◌*◌, ◌-◌, ◌/◌, ◌%◌, ◌^◌, ◌≤◌, ◌<◌, ℤ, pos, negsuc, true, false, List, [], ◌∷◌, ◌++◌, Some, option_map, length, get_or, refl, ap, arith, append-nil, append_assoc, length-append, ltb-true}
use Rattle.std.specs.Prelude.{◌==◌, decimal, nat_le, replicate}
use Rattle.std.specs.Char.{is_ascii_digit}
use Rattle.std.specs.Fmt.{signed_decimal}
use Rattle.std.specs.List.{position_or_len}
use Rattle.std.specs.Str.Parse.{digits_value}
use Rattle.std.proofs.lemmas.Bool.{and_parts, le-leb, leb-true}
use Rattle.std.proofs.lemmas.Fmt.{decimal_by_steps_wide}
use Rattle.std.proofs.lemmas.List.Folds.{list_all-append}
use Rattle.event_types.proofs.NumberLemmas.{is_other}
use Rattle.semantics.specs.Report.{decimal_text, with_places, with_point}
use Rattle.semantics.specs.Values.{is_in_range}
use Rattle.event_csv.specs.Decimals.{units_above, units_of, units_up_to}
use Rattle.event_csv.specs.Numbers.{are_digits, int_of, number_up_to, positive_of}
use Rattle.event_csv.specs.ReadBack.{DecimalsAreReadAsTheyAreWritten, NumbersAreReadAsTheyAreWritten, TimesAreReadAsTheyAreWritten}
use Rattle.event_csv.proofs.DecimalFacts.{units-digits, units-whole, value-append}
use Rattle.event_csv.proofs.DigitFacts.{digit_value-is}

-- some digits write a number
record IsWritten (n : ℕ) (text : List ℕ) : Type 0 where
  some : 1 ≤ length text
  digits : are_digits text ≡ true
  value : digits_value 10 text ≡ n

-- one digit behind others
digit-written : (n d : ℕ) (s : List ℕ) → d ≤ 9 → IsWritten n s → IsWritten (n * 10 + d) (s ++ (48 + d) ∷ [])
digit-written n d s one h = record {
  some = omega (arith, length-append s ((48 + d) ∷ []));
  digits = list_all-append is_ascii_digit s ((48 + d) ∷ []) ∙ rw (h.digits, le-leb 48 (48 + d) (omega arith), le-leb (48 + d) 57 (omega (arith, one))) refl;
  value = value-append 0 s ((48 + d) ∷ []) ∙ omega (arith, ap (λ v. v * 10) h.value, digit_value-is (48 + d) (omega arith) (omega (arith, one)));
}

-- a number is written by its digits, by induction on them
decimal-written : (n : ℕ) → n < 10 ^ 64 → IsWritten n (decimal n)
decimal-written n small =
    decimal_by_steps_wide (λ m digits. IsWritten m digits)
    (λ m one. digit m one)
    (λ m digits more front. whole m digits front)
    n small
  where
    digit : (m : ℕ) → m < 10 → IsWritten m ((48 + m) ∷ [])
    digit m one = record {
      some = omega arith;
      digits = rw (le-leb 48 (48 + m) (omega arith), le-leb (48 + m) 57 (omega (arith, one))) refl;
      value = omega (arith, digit_value-is (48 + m) (omega arith) (omega (arith, one)));
    }

    whole : (m : ℕ) (digits : List ℕ) → IsWritten (m / 10) digits → IsWritten m (digits ++ (48 + m % 10) ∷ [])
    whole m digits front =
        let all : m / 10 * 10 + m % 10 ≡ m = omega arith in
        rw all at (digit-written (m / 10) (m % 10) digits (omega arith) front)

-- what is written so is read as the number
written-number : (most n : ℕ) (s : List ℕ) → IsWritten n s → n ≤ most → number_up_to most s ≡ Some n
written-number most n s h fits = rw (le-leb 1 (length s) h.some, h.digits, h.value, le-leb n most fits) refl

-- a digit is neither a point nor a sign
digit-other : (b c : ℕ) → is_ascii_digit b ≡ true → c < 48 → (b == c) ≡ false
digit-other b c h small =
    let e = and_parts (nat_le 48 b) (nat_le b 57) h in
    is_other b c (λ same. omega (arith, leb-true 48 b e.0, same, small))

-- no point is among digits, by induction on them
no-point : (s : List ℕ) → are_digits s ≡ true → position_or_len (λ b. b == 46) s ≡ length s
no-point [] h = refl
no-point (b ∷ s) h =
    let both = and_parts (is_ascii_digit b) (are_digits s) h in
    rw (digit-other b 46 both.0 (omega arith)) (omega (arith, no-point s both.1))

-- the digits of a number stand before a point and behind it
record IsPointed (places n : ℕ) (text : List ℕ) : Type 0 where
  front : List ℕ
  behind : List ℕ
  is : text ≡ front ++ 46 ∷ behind
  some : 1 ≤ length front
  digits : are_digits front ≡ true
  many : length behind ≡ places
  whole : IsWritten n (front ++ behind)

-- so it is written, by induction on the places
point-written : (places n : ℕ) → n < 10 ^ 64 → IsPointed places n (with_point places n)
point-written zero n small =
    let written = decimal-written n small in
    record {
      front = decimal n;
      behind = [];
      is = refl;
      some = written.some;
      digits = written.digits;
      many = refl;
      whole = rw (append-nil (decimal n)) written;
    }
point-written (suc places) n small =
    let h = point-written places (n / 10) (omega (arith, small)) in
    let last : List ℕ = (48 + n % 10) ∷ [] in
    let all : n / 10 * 10 + n % 10 ≡ n = omega arith in
    let whole : IsWritten n ((h.front ++ h.behind) ++ last) = rw all at (digit-written (n / 10) (n % 10) (h.front ++ h.behind) (omega arith) h.whole) in
    record {
      front = h.front;
      behind = h.behind ++ last;
      is = ap (λ text. text ++ last) h.is ∙ append_assoc h.front (46 ∷ h.behind) last;
      some = h.some;
      digits = h.digits;
      many = omega (arith, length-append h.behind last, h.many);
      whole = rw (append_assoc h.front h.behind last) at whole;
    }

-- a number with places is read as it is written
places-read : (most places n : ℕ) → n ≤ most → n < 10 ^ 64 → units_up_to most places (with_places places n) ≡ Some n
places-read most zero n fits small =
    let written = decimal-written n small in
    units-whole most 0 (decimal n) (no-point (decimal n) written.digits) ∙ rw (written-number most n (decimal n) written fits, one, le-leb n most fits) refl
  where
    one : n * 10 ^ 0 ≡ n
    one = omega arith
places-read most (suc places) n fits small =
    let h = point-written (suc places) n small in
    let none : suc places - length h.behind ≡ 0 = omega (arith, h.many) in
    ap (units_up_to most (suc places)) h.is
    ∙ units-digits most (suc places) h.front h.behind (no-point h.front h.digits) h.some (omega (arith, h.many)) (omega (arith, h.many))
    ∙ ap (λ k. number_up_to most (h.front ++ (h.behind ++ replicate k 48))) none
    ∙ ap (λ s. number_up_to most (h.front ++ s)) (append-nil h.behind)
    ∙ written-number most n (h.front ++ h.behind) h.whole fits

-- its first byte is a digit
places-first : (places n : ℕ) → n < 10 ^ 64 → (1 ≤ length (with_places places n)) × (is_ascii_digit (get_or (with_places places n) 0 0) ≡ true)
places-first zero n small = let written = decimal-written n small in (written.some, first-digit (decimal n) [] written.some written.digits)
  where
    first-digit : (s t : List ℕ) → 1 ≤ length s → are_digits s ≡ true → is_ascii_digit (get_or s 0 0) ≡ true
    first-digit [] t some h = absurd (omega arith)
    first-digit (b ∷ s) t some h = (and_parts (is_ascii_digit b) (are_digits s) h).0
places-first (suc places) n small = let h = point-written (suc places) n small in rw h.is (first-digit h.front (46 ∷ h.behind) h.some h.digits)
  where
    first-digit : (s t : List ℕ) → 1 ≤ length s → are_digits s ≡ true → (1 ≤ length (s ++ t)) × (is_ascii_digit (get_or (s ++ t) 0 0) ≡ true)
    first-digit [] t some h = absurd (omega arith)
    first-digit (b ∷ s) t some h = (omega arith, (and_parts (is_ascii_digit b) (are_digits s) h).0)

-- what begins with a digit has no sign
units-unsigned : (places : ℕ) (s : List ℕ) → 1 ≤ length s → is_ascii_digit (get_or s 0 0) ≡ true → units_of places s ≡ units_above places s
units-unsigned places [] some h = absurd (omega arith)
units-unsigned places (b ∷ s) some h = rw (digit-other b 45 h (omega arith), digit-other b 43 h (omega arith)) refl

int-unsigned : (s : List ℕ) → 1 ≤ length s → are_digits s ≡ true → int_of s ≡ positive_of s
int-unsigned [] some h = absurd (omega arith)
int-unsigned (b ∷ s) some h =
    let digit = (and_parts (is_ascii_digit b) (are_digits s) h).0 in
    rw (digit-other b 45 digit (omega arith), digit-other b 43 digit (omega arith)) refl

-- a time is read as it is written
pub times-read : TimesAreReadAsTheyAreWritten
times-read time small = written-number 18446744073709551615 time (decimal time) (decimal-written time (omega (arith, small))) (omega (arith, small))

int-read : (z : ℤ) → is_in_range z ≡ true → int_of (signed_decimal z) ≡ Some z
int-read (pos n) range =
    let small : n < 2 ^ 127 = ltb-true n (2 ^ 127) range in
    let written = decimal-written n (omega (arith, small)) in
    int-unsigned (decimal n) written.some written.digits
    ∙ ap (option_map pos) (written-number 170141183460469231731687303715884105727 n (decimal n) written (omega (arith, small)))
int-read (negsuc n) range =
    let small : n < 2 ^ 127 = ltb-true n (2 ^ 127) range in
    let written = decimal-written (suc n) (omega (arith, small)) in
    rw (written-number 170141183460469231731687303715884105728 (suc n) (decimal (suc n)) written (omega (arith, small))) refl

-- so is a whole number
pub numbers-read : NumbersAreReadAsTheyAreWritten
numbers-read number range = rw (int-read number range) refl

units-read : (scale : ℕ) (z : ℤ) → is_in_range z ≡ true → units_of scale (decimal_text scale z) ≡ Some z
units-read scale (pos n) range =
    let small : n < 2 ^ 127 = ltb-true n (2 ^ 127) range in
    let first = places-first scale n (omega (arith, small)) in
    units-unsigned scale (with_places scale n) first.0 first.1
    ∙ ap (option_map pos) (places-read 170141183460469231731687303715884105727 scale n (omega (arith, small)) (omega (arith, small)))
units-read scale (negsuc n) range =
    let small : n < 2 ^ 127 = ltb-true n (2 ^ 127) range in
    rw (places-read 170141183460469231731687303715884105728 scale (suc n) (omega (arith, small)) (omega (arith, small))) refl

-- and a decimal
pub decimals-read : DecimalsAreReadAsTheyAreWritten
decimals-read scale units range = rw (units-read scale units range) refl
