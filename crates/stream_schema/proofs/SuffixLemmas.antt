-- Of one more number than there are attributes one makes a name free, and the least of them is found.
use Rattle.std.proofs.Common.{◌≡◌, ◌≢◌, ◌∙◌, ◌+◌, ◌-◌, ◌<◌, ◌≤◌, ◌^◌, ℕ, zero, suc, List, [], ◌∷◌, ◌++◌, Bool, true, false, not, filter, length, refl, sym, inl, inr, arith}
use Rattle.std.specs.Prelude.{decimal, codes}
use Rattle.std.specs.List.{list_any}
use Rattle.std.specs.Str.{bytes_eq}
use Rattle.std.proofs.lemmas.Bool.{cases_Bool, not-false, not-true}
use Rattle.std.proofs.Math.Nat.{eq-or-lt_of_le}
use Rattle.std.proofs.lemmas.Fmt.{decimal_injective}
use Rattle.std.proofs.lemmas.List.{append_cancel_left, length-map}
use Rattle.std.proofs.lemmas.Slice.Eq.{bytes_eq-Decides}
use Rattle.stream_schema.specs.Joining.{IsLeastSuffix, is_taken, least_from, suffix_of, suffixed}
use Rattle.stream_schema.specs.Schema.{Attr, names_of}
use Rattle.stream_schema.proofs.NameLemmas.{place-any}

-- the search stops where the test passes
pub least_from-here : (test : ℕ → Bool) (low many : ℕ) → test low ≡ true → least_from test low many ≡ low
least_from-here test low zero h = refl
least_from-here test low (suc many) h = rw h refl

-- and goes on where it doesn't
least_from-past : (test : ℕ → Bool) (low many : ℕ) → test low ≡ false → least_from test low (suc many) ≡ least_from test (low + 1) many
least_from-past test low many h = rw h refl

-- and goes on where it doesn't, up to a last number
pub least_from-next : (test : ℕ → Bool) (low last : ℕ) → low < last → test low ≡ false → least_from test low (last - low) ≡ least_from test (low + 1) (last - (low + 1))
least_from-next test low last below h =
    let more : last - low ≡ suc (last - (low + 1)) = omega arith in
    rw more (least_from-past test low (last - (low + 1)) h)

-- a filter leaves no more items than there were
filter-short : {X : Type 0} (p : X → Bool) (xs : List X) → length (filter p xs) ≤ length xs
filter-short p [] = omega arith
filter-short p (x ∷ xs) =
    let rest = filter-short p xs in
    elim (cases_Bool (p x)) [
      | inl passes ↦ rw passes (omega (arith, rest))
      | inr fails ↦ rw fails (omega (arith, rest))
    ]

-- the others of a list that has the name are fewer, by induction on the list
fewer : (name : List ℕ) (names : List (List ℕ)) → list_any (bytes_eq name) names ≡ true → length (filter (λ x. not (bytes_eq name x)) names) < length names
fewer name [] h = cc
fewer name (x ∷ names) h =
    elim (cases_Bool (bytes_eq name x)) [
      | inl same ↦ rw same (let rest = filter-short (λ x. not (bytes_eq name x)) names in omega (arith, rest))
      | inr other ↦ let rest = fewer name names (rw other at h) in rw other (omega (arith, rest))
    ]

-- and they have each other name that was there, by induction on the list
keeps : (name other : List ℕ) (names : List (List ℕ)) → name ≢ other → list_any (bytes_eq other) names ≡ true → list_any (bytes_eq other) (filter (λ x. not (bytes_eq name x)) names) ≡ true
keeps name other [] apart h = cc
keeps name other (x ∷ names) apart h =
    elim (cases_Bool (bytes_eq name x)) [
      | inl here ↦
          elim (cases_Bool (bytes_eq other x)) [
            | inl both ↦ absurd (apart ((bytes_eq-Decides name x).0 here ∙ sym ((bytes_eq-Decides other x).0 both)))
            | inr past ↦ rw here (keeps name other names apart (rw past at h))
          ]
      | inr elsewhere ↦
          elim (cases_Bool (bytes_eq other x)) [
            | inl found ↦ rw (elsewhere, found) refl
            | inr past ↦ rw (elsewhere, past) (keeps name other names apart (rw past at h))
          ]
    ]

-- a list doesn't have more names than its length, by induction on a bound of the length
crowded : (many : ℕ) (names : List (List ℕ)) (f : ℕ → List ℕ) (low : ℕ) → length names ≤ many
    → ((i j : ℕ) → i < j → j ≤ low + many → f i ≢ f j) → ((i : ℕ) → low ≤ i → i ≤ low + many → list_any (bytes_eq (f i)) names ≡ true) → ⊥
crowded zero [] f low short apart all = let there = all low (omega arith) (omega arith) in cc
crowded zero (x ∷ names) f low short apart all = omega arith
crowded (suc many) names f low short apart all =
    let here = all low (omega arith) (omega arith) in
    let less = fewer (f low) names here in
    crowded many (filter (λ x. not (bytes_eq (f low) x)) names) f (low + 1) (omega arith)
    (λ i j before within. apart i j before (omega arith))
    (λ i above within. keeps (f low) (f i) names (apart low i (omega arith) (omega arith)) (all i (omega arith) (omega arith)))

-- names with different suffixes differ
suffixed-apart : (name : List ℕ) (i j : ℕ) → i < j → j < 2 ^ 64 → suffixed name i ≢ suffixed name j
suffixed-apart name i j before within same =
    let numbers = append_cancel_left (name ++ codes "_") (decimal i) (decimal j) same in
    let equal = decimal_injective i j (omega arith) within numbers in
    omega arith

-- the number that is found is not below the first one, by induction on how many there are
least_from-above : (test : ℕ → Bool) (low many : ℕ) → low ≤ least_from test low many
least_from-above test low zero = omega arith
least_from-above test low (suc many) =
    elim (cases_Bool (test low)) [
      | inl passes ↦ rw passes (omega arith)
      | inr fails ↦ let rest = least_from-above test (low + 1) many in rw fails (omega (arith, rest))
    ]

-- each number before it fails, by induction on how many there are
least_from-before : (test : ℕ → Bool) (low many i : ℕ) → low ≤ i → i < least_from test low many → test i ≡ false
least_from-before test low zero i above before = absurd (omega arith)
least_from-before test low (suc many) i above before =
    elim (cases_Bool (test low)) [
      | inl passes ↦ let first = rw passes at before in absurd (omega (arith, first))
      | inr fails ↦
          elim (eq-or-lt_of_le above) [
            | inl here ↦ rw (← here) fails
            | inr later ↦ least_from-before test (low + 1) many i (omega (arith, later)) (rw fails at before)
          ]
    ]

-- where it fails itself, it is the last one, by induction on how many there are
least_from-last : (test : ℕ → Bool) (low many : ℕ) → test (least_from test low many) ≡ false → least_from test low many ≡ low + many
least_from-last test low zero fails = omega arith
least_from-last test low (suc many) fails =
    elim (cases_Bool (test low)) [
      | inl passes ↦ let no = sym passes ∙ (rw passes at fails) in cc
      | inr next ↦ let rest = least_from-last test (low + 1) many (rw next at fails) in rw next (omega (arith, rest))
    ]

-- the suffix is the least that makes the name free
pub suffix_least : (attrs : List Attr) (name : List ℕ) → length attrs ≤ 256 → IsLeastSuffix attrs name (suffix_of attrs name)
suffix_least attrs name narrow =
    let test : ℕ → Bool = λ number. not (is_taken attrs (suffixed name number)) in
    let found = suffix_of attrs name in
    record {
      from_two = least_from-above test 2 (length attrs);
      free =
          elim (cases_Bool (test found)) [
            | inl passes ↦ not-true (is_taken attrs (suffixed name found)) passes
            | inr fails ↦
                let last = least_from-last test 2 (length attrs) fails in
                absurd (crowded (length attrs) (names_of attrs) (suffixed name) 2 (rw length-map (omega arith))
                (λ i j before within. suffixed-apart name i j before (omega arith))
                (λ i above within.
                let fails_at : test i ≡ false =
                elim (eq-or-lt_of_le {n = i} {m = found} (omega (arith, last))) [
                  | inl same ↦ rw same fails
                  | inr before ↦ least_from-before test 2 (length attrs) i above (omega (arith, before))
                ] in
                sym (place-any (λ (a : Attr). a.name) (suffixed name i) attrs) ∙ not-false (is_taken attrs (suffixed name i)) fails_at))
          ];
      least = λ smaller above before. not-false (is_taken attrs (suffixed name smaller)) (least_from-before test 2 (length attrs) smaller above before);
    }
