-- The text that `csv` writes of a field, and fields that need no quotes.
use Rattle.std.proofs.Common.{◌≡◌, ◌≢◌, ◌<◌, ◌^◌, ◌+◌, ◌-◌, ◌/◌, ◌%◌, ℕ, ℤ, pos, negsuc, zero, suc, List, [], ◌∷◌, ◌++◌, Bool, true, false, refl, inl, inr, arith, eqb-true}
use Rattle.std.specs.Prelude.{◌==◌, ◌||◌, decimal}
use Rattle.std.specs.Fmt.{signed_decimal}
use Rattle.std.specs.Int.Signed.{mag}
use Rattle.std.specs.List.{list_any}
use Rattle.std.proofs.lemmas.Bool.{cases_Bool}
use Rattle.std.proofs.lemmas.Bool.Decides.{nat_tests}
use Rattle.std.proofs.lemmas.Fmt.{decimal_by_steps_wide}
use Rattle.std.proofs.lemmas.List.Folds.{list_any-append}
use Rattle.csv.specs.Writing.{escaped, field_text, needs_byte, next_sep}
use Rattle.result_text.specs.Written.{any_width}
use Rattle.semantics.specs.Report.{decimal_text, doubled, is_special, quoted, with_places, with_point}

or-shape : (a b c d : Bool) → a || b || (c || d) || false || false ≡ a || b || c || d
or-shape true b c d = refl
or-shape false true c d = refl
or-shape false false true d = refl
or-shape false false false true = refl
or-shape false false false false = refl

-- the bytes that call for quotes are the special ones, by induction on the field
any-special : (field : List ℕ) → list_any (needs_byte any_width) field ≡ list_any is_special field
any-special [] = refl
any-special (b ∷ field) = rw (or-shape (b == 44) (b == 34) (b == 13) (b == 10), any-special field) refl

-- between its quotes a field has each quote doubled, by induction on the field
escaped-doubled : (field : List ℕ) → escaped any_width field ≡ doubled field
unfolding escaped
escaped-doubled [] = refl
escaped-doubled (b ∷ field) =
    elim (cases_Bool (b == 34)) [
      | inl same ↦ rw (same, escaped-doubled field, eqb-true b 34 same) refl
      | inr other ↦ rw (other, escaped-doubled field) refl
    ]

-- `csv` writes a field as it is quoted in a result line
pub field_text-quoted : (field : List ℕ) → field_text any_width field ≡ quoted field
field_text-quoted field = rw (any-special field, escaped-doubled field) refl

-- a comma stands before a further field
pub next_sep-later : (i : ℕ) → 0 < i → next_sep any_width i ≡ 44 ∷ []
next_sep-later i h = grind (arith, nat_tests)

digit_plain : (n : ℕ) → n < 10 → is_special (48 + n) ≡ false
digit_plain n h = grind (arith, nat_tests)

-- no digit of a number is special, by induction on its digits
decimal_plain : (n : ℕ) → n < 10 ^ 64 → list_any is_special (decimal n) ≡ false
decimal_plain n small =
    decimal_by_steps_wide (λ _ digits. list_any is_special digits ≡ false)
    (λ m one. rw (digit_plain m one) refl)
    (λ m digits more front. rw (list_any-append is_special digits ((48 + m % 10) ∷ []), front, digit_plain (m % 10) (omega arith)) refl)
    n small

-- a number is written without quotes
pub quoted-decimal : (n : ℕ) → n < 10 ^ 64 → quoted (decimal n) ≡ decimal n
quoted-decimal n small = rw (decimal_plain n small) refl

-- and a signed one of 128 bits too
pub quoted-signed : (z : ℤ) → mag z < 2 ^ 127 → quoted (signed_decimal z) ≡ signed_decimal z
quoted-signed (pos n) small = quoted-decimal n (omega arith)
quoted-signed (negsuc n) small = let less : suc n < 10 ^ 64 = omega arith in rw (decimal_plain (suc n) less) refl

-- a digit behind plain bytes
digit_behind : (text : List ℕ) (n : ℕ) → list_any is_special text ≡ false → n < 10 → list_any is_special (text ++ (48 + n) ∷ []) ≡ false
digit_behind text n front one = rw (list_any-append is_special text ((48 + n) ∷ []), front, digit_plain n one) refl

-- nor is a digit or the point of a number with places, by induction on the places
point_plain : (places n : ℕ) → n < 10 ^ 64 → list_any is_special (with_point places n) ≡ false
point_plain zero n small = rw (list_any-append is_special (decimal n) (46 ∷ []), decimal_plain n small) refl
point_plain (suc places) n small = digit_behind (with_point places (n / 10)) (n % 10) (point_plain places (n / 10) (omega arith)) (omega arith)

places_plain : (places n : ℕ) → n < 10 ^ 64 → list_any is_special (with_places places n) ≡ false
places_plain zero n small = decimal_plain n small
places_plain (suc places) n small = point_plain (suc places) n small

-- a decimal is written without quotes
pub quoted-decimal_text : (scale : ℕ) (z : ℤ) → mag z < 2 ^ 127 → quoted (decimal_text scale z) ≡ decimal_text scale z
quoted-decimal_text scale (pos n) small = rw (places_plain scale n (omega arith)) refl
quoted-decimal_text scale (negsuc n) small = let less : suc n < 10 ^ 64 = omega arith in rw (places_plain scale (suc n) less) refl

-- the last digit of a number with places stands behind the others
pub last_digit : (places n : ℕ) → places ≢ 0 → with_point places n ≡ with_point (places - 1) (n / 10) ++ (48 + n % 10) ∷ []
last_digit zero n some = absurd (some refl)
last_digit (suc places) n some = let fewer : suc places - 1 ≡ places = omega arith in rw fewer refl
