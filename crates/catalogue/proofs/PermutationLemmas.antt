-- Distinct numbers in two orders.
use Rattle.std.proofs.Common.{◌≡◌, ◌≢◌, ◌∙◌, ℕ, zero, suc, ◌+◌, ◌<◌, List, [], ◌∷◌, true, false, get_or, refl, sym, ap, subst, inl, inr, arith}
use Rattle.std.specs.Prelude.{◌==◌, AllPairs, Contains}
use Rattle.std.specs.List.{range_with_len, remove}
use Rattle.std.specs.List.Sorted.{IsPermutation}
use Rattle.std.proofs.lemmas.Bool.{cases_eq}
use Rattle.std.proofs.lemmas.List.Elements.{Contains-append_right}
use Rattle.std.proofs.lemmas.List.FromFn.{get_or-range_with_len, length-range_with_len}
use Rattle.std.proofs.lemmas.List.Sorted.{Contains-permutation, IsPermutation-cons, IsPermutation-refl, IsPermutation-remove, IsPermutation-sym, IsPermutation-trans}
use Rattle.std.proofs.lemmas.Map.Keys.{IsDistinct-IsPermutation, apart_from_distinct}
use Rattle.catalogue.proofs.CountLemmas.{distinct_by_test}
use Rattle.event_types.proofs.NumberLemmas.{self_equal, is_other}

-- the test of two numbers doesn't mind their order
eq_flips : (x y : ℕ) → (x == y) ≡ (y == x)
eq_flips x y = elim (cases_eq x y) [
  | inl same ↦ ap (λ z. x == z) (sym same) ∙ self_equal x ∙ sym (ap (λ z. y == z) same ∙ self_equal y)
  | inr other ↦ is_other x y other ∙ sym (is_other y x (λ same. other (sym same)))
]

-- distinct numbers stay so in another order
apart_permuted : (xs ys : List ℕ) → IsPermutation xs ys → AllPairs (λ x y. x ≢ y) xs → AllPairs (λ x y. x ≢ y) ys
apart_permuted xs ys moved apart i j d before within same =
    let other : (get_or ys i d == get_or ys j d) ≡ false = apart_from_distinct ◌==◌ ys i j d (IsDistinct-IsPermutation ◌==◌ eq_flips xs ys moved (distinct_by_test xs apart)) before within in
    let one : (get_or ys i d == get_or ys j d) ≡ true = ap (λ x. x == get_or ys j d) same ∙ self_equal (get_or ys j d) in
    cc

later_apart : (x : ℕ) (xs : List ℕ) → AllPairs (λ x y. x ≢ y) (x ∷ xs) → AllPairs (λ x y. x ≢ y) xs
later_apart x xs apart i j d before within = apart (suc i) (suc j) d (omega arith) (omega arith)

first_apart : (x : ℕ) (xs : List ℕ) → AllPairs (λ x y. x ≢ y) (x ∷ xs) → (q : ℕ) → Contains xs q → q ≢ x
first_apart x xs apart q (k, within, there) same = apart 0 (suc k) q (omega arith) (omega arith) (sym (there ∙ same))

later_stands : (x : ℕ) (xs : List ℕ) (q : ℕ) → Contains (x ∷ xs) q → q ≢ x → Contains xs q
later_stands x xs q (zero, within, there) other = absurd (other (sym there))
later_stands x xs q (suc k, within, there) other = (k, omega arith, there)

-- distinct numbers that are the same are so in some order: by induction on the first ones
permutes : (xs ys : List ℕ) → AllPairs (λ x y. x ≢ y) xs → AllPairs (λ x y. x ≢ y) ys → ((q : ℕ) → Contains xs q → Contains ys q) → ((q : ℕ) → Contains ys q → Contains xs q) → IsPermutation xs ys
permutes [] [] apart others_apart to from = IsPermutation-refl []
permutes [] (y ∷ ys) apart others_apart to from = let (k, within, there) = from y (0, omega arith, refl) in absurd (omega arith)
permutes (x ∷ xs) ys apart others_apart to from =
    let (k, within, there) = to x (0, omega arith, refl) in
    let front : IsPermutation ys (x ∷ remove ys k) = IsPermutation-remove ys k x within (sym there) in
    let front_apart : AllPairs (λ x y. x ≢ y) (x ∷ remove ys k) = apart_permuted ys (x ∷ remove ys k) front others_apart in
    let later : IsPermutation xs (remove ys k) = permutes xs (remove ys k) (later_apart x xs apart) (later_apart x (remove ys k) front_apart)
    (λ q stands. later_stands x (remove ys k) q (Contains-permutation ys (x ∷ remove ys k) q front (to q (Contains-append_right (x ∷ []) xs q stands))) (first_apart x xs apart q stands))
    (λ q stands. later_stands x xs q (from q (Contains-permutation (x ∷ remove ys k) ys q (IsPermutation-sym ys (x ∷ remove ys k) front) (Contains-append_right (x ∷ []) (remove ys k) q stands))) (first_apart x (remove ys k) front_apart q stands)) in
    IsPermutation-trans (x ∷ xs) (x ∷ remove ys k) ys (IsPermutation-cons x xs (remove ys k) later) (IsPermutation-sym ys (x ∷ remove ys k) front)

-- the first so many numbers are those below
pub from_range : (n q : ℕ) → Contains (range_with_len 0 n) q → q < n
from_range n q (k, within, there) =
    let small : k < n = subst (λ m. k < m) (length-range_with_len 0 n) within in
    let is : get_or (range_with_len 0 n) k q ≡ 0 + k = get_or-range_with_len 0 n k q small in
    let same : q ≡ 0 + k = sym there ∙ is in
    omega arith

-- and all of those
pub to_range : (n q : ℕ) → q < n → Contains (range_with_len 0 n) q
to_range n q small =
    let is : get_or (range_with_len 0 n) q q ≡ 0 + q = get_or-range_with_len 0 n q q small in
    let zero_first : 0 + q ≡ q = omega arith in
    (q, subst (λ m. q < m) (sym (length-range_with_len 0 n)) small, is ∙ zero_first)

-- no two of them are the same
pub range_apart : (n : ℕ) → AllPairs (λ x y. x ≢ y) (range_with_len 0 n)
range_apart n i j d before within same =
    let small : j < n = subst (λ m. j < m) (length-range_with_len 0 n) within in
    let first : get_or (range_with_len 0 n) i d ≡ 0 + i = get_or-range_with_len 0 n i d (omega arith) in
    let second : get_or (range_with_len 0 n) j d ≡ 0 + j = get_or-range_with_len 0 n j d small in
    let equal : 0 + i ≡ 0 + j = sym first ∙ same ∙ second in
    absurd (omega arith)

-- distinct numbers that are the first so many are so in some order
pub range_permutes : (n : ℕ) (ys : List ℕ) → AllPairs (λ x y. x ≢ y) ys → ((q : ℕ) → q < n → Contains ys q) → ((q : ℕ) → Contains ys q → q < n) → IsPermutation (range_with_len 0 n) ys
range_permutes n ys apart each small = permutes (range_with_len 0 n) ys (range_apart n) apart (λ q there. each q (from_range n q there)) (λ q there. to_range n q (small q there))
