-- Numbers from their digits, a digit at a time.
use Rattle.std.proofs.Common.{◌≡◌, ℕ, zero, suc, ◌+◌, ◌*◌, ◌-◌, ◌≤◌, ◌<◌, true, List, [], ◌∷◌, length, drop, get_or, refl, ap, ◌∙◌, arith, drop-cons, add-one, leb-true}
use Rattle.std.specs.Prelude.{nat_le}
use Rattle.std.specs.Char.{digit_value, is_ascii_digit}
use Rattle.std.specs.Str.Parse.{digits_value_after}
use Rattle.std.proofs.lemmas.Str.{digit_value_digit}
use Rattle.event_csv.specs.Numbers.{are_digits}
use Rattle.std.proofs.lemmas.Bool.{and_parts}

-- more digits make no number smaller
pub more : (n : ℕ) (s : List ℕ) → n ≤ digits_value_after 10 n s
more n [] = omega arith
more n (b ∷ s) = omega (arith, more (n * 10 + digit_value b) s)

-- the value of a digit
pub digit_value-is : (b : ℕ) → 48 ≤ b → b ≤ 57 → digit_value b ≡ b - 48
digit_value-is b lo hi = omega (arith, digit_value_digit b (lo, hi), lo)

-- a digit goes behind those before it
pub one-more : (n : ℕ) (s : List ℕ) (i : ℕ) → i < length s → 48 ≤ get_or s i 0 → get_or s i 0 ≤ 57
    → digits_value_after 10 n (drop i s) ≡ digits_value_after 10 (n * 10 + (get_or s i 0 - 48)) (drop (i + 1) s)
one-more n s i h lo hi =
    let here : drop i s ≡ get_or s i 0 ∷ drop (i + 1) s = rw (drop-cons s i 0, add-one) refl in
    ap (digits_value_after 10 n) here ∙ ap (λ d. digits_value_after 10 (n * 10 + d) (drop (i + 1) s)) (digit_value-is (get_or s i 0) lo hi)

-- each byte of digits is one of `0` to `9`
pub digit-at : (s : List ℕ) (i : ℕ) → are_digits s ≡ true → i < length s → (48 ≤ get_or s i 0) × (get_or s i 0 ≤ 57)
digit-at [] i h lt = absurd (omega arith)
digit-at (b ∷ s) zero h lt =
    let d = (and_parts (is_ascii_digit b) (are_digits s) h).0 in
    let e = and_parts (nat_le 48 b) (nat_le b 57) d in
    (leb-true 48 b e.0, leb-true b 57 e.1)
digit-at (b ∷ s) (suc i) h lt = digit-at s i (and_parts (is_ascii_digit b) (are_digits s) h).1 (omega arith)
