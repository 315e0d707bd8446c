-- Counts over lists that grow, and lists over ranges of numbers.
use Rattle.std.proofs.Common.{◌≡◌, ◌⊎◌, ◌∙◌, sym, ap, refl, subst, inl, inr, ℕ, zero, suc, ◌+◌, ◌<◌, ◌≤◌, nat_lt, Bool, true, false, not, cond, length, get_or, set, List, [], ◌∷◌, ◌++◌, append_assoc, append-nil, arith, add-zero}
use Rattle.std.specs.Prelude.{Some, None, count_by, position, slice_get}
use Rattle.std.specs.List.{flat_map, position_or_len, prefix_len, range_with_len, swap_remove}
use Rattle.std.specs.List.Sorted.{IsPermutation}
use Rattle.std.proofs.lemmas.Bool.Decides.{nat_tests}
use Rattle.std.proofs.lemmas.List.Sums.{sum_by-append, sum_by-cons, sum_by-set, sum_by-swap_remove, get_or-le-sum_by}
use Rattle.std.proofs.lemmas.Option.{get_or_from_slice_get, slice_get_within}
use Rattle.std.proofs.lemmas.List.Sorted.{IsPermutation-append_comm, IsPermutation-append_right}
use Rattle.automaton.proofs.NumberLemmas.{are_same_or_not}

-- what a test counts for
abbrev pub bit : Bool → ℕ
bit b = cond b 1 0

module _ {X : Type 0} (p : X → Bool) where
  -- one item more counts where it passes
  pub count-cons : (x : X) (xs : List X) → count_by p (x ∷ xs) ≡ cond (p x) 1 0 + count_by p xs
  count-cons x xs = sum_by-cons (λ y. bit (p y)) x xs

  -- one more item counts where it passes
  pub count-push : (xs : List X) (x : X) → count_by p (xs ++ x ∷ []) ≡ count_by p xs + cond (p x) 1 0
  count-push xs x = sum_by-append (λ y. bit (p y)) xs (x ∷ []) ∙ ap (λ n. count_by p xs + n) (count-cons x [] ∙ add-zero (bit (p x)))

  -- an item that passes as the one in its place did changes no count
  pub count-set : (xs : List X) (i : ℕ) (y d : X) → i < length xs → p y ≡ p (get_or xs i d) → count_by p (set xs i y) ≡ count_by p xs
  count-set xs i y d lt same =
      let change = sum_by-set (λ x. bit (p x)) xs i y d lt in
      let one : bit (p y) ≡ bit (p (get_or xs i d)) = ap bit same in omega arith

  -- without an item, in whose place the last one stands, there is one less where it passed
  pub count-taken : (xs : List X) (place : ℕ) (x : X) → slice_get xs place ≡ Some x → count_by p (swap_remove xs place x) + bit (p x) ≡ count_by p xs
  count-taken xs place x there =
      ap (λ y. count_by p (swap_remove xs place x) + bit (p y)) (sym (get_or_from_slice_get xs place x x there)) ∙ sum_by-swap_remove (λ y. bit (p y)) xs place x (slice_get_within xs place x there)

  -- an item that passes is counted
  pub count-has : (xs : List X) (i : ℕ) (d : X) → i < length xs → p (get_or xs i d) ≡ true → 1 ≤ count_by p xs
  count-has xs i d lt passes =
      let at_least = get_or-le-sum_by (λ x. bit (p x)) xs i d lt in
      let one : bit (p (get_or xs i d)) ≡ 1 = ap bit passes in omega arith

none_more : (b : Bool) (first count len : ℕ) → (len ≤ first → count ≡ 0) → suc len ≤ cond (not b) (1 + first) 0 → cond b 1 0 + count ≡ 0
none_more true first count len none le = absurd (omega arith)
none_more false first count len none le = let zero_count : count ≡ 0 = none (omega arith) in omega arith

all_before : {X : Type 0} (p : X → Bool) (xs : List X) → length xs ≤ prefix_len (λ x. not (p x)) xs → count_by p xs ≡ 0
all_before p [] le = refl
all_before p (x ∷ xs) le = count-cons p x xs ∙ none_more (p x) (prefix_len (λ y. not (p y)) xs) (count_by p xs) (length xs) (all_before p xs) le

no_place : (b : Bool) (place len : ℕ) → b ≡ nat_lt place len → cond b (Some place) None ≡ None → len ≤ place
no_place true place len same e = cc
no_place false place len same e = grind (arith, nat_tests)

-- where no item passes none is counted
pub none_counted : {X : Type 0} (p : X → Bool) (xs : List X) → position p xs ≡ None → count_by p xs ≡ 0
none_counted p xs none = all_before p xs (no_place (nat_lt (position_or_len p xs) (length xs)) (position_or_len p xs) (length xs) refl none)

-- numbers from one on
module _ {X : Type 0} (f g : ℕ → List X) where
  -- what is the same at each of the numbers
  pub range_same : (a n : ℕ) → ((k : ℕ) → a ≤ k → k < a + n → f k ≡ g k) → flat_map f (range_with_len a n) ≡ flat_map g (range_with_len a n)
  range_same a zero same = refl
  range_same a (suc n) same = λ i. same a (omega arith) (omega arith) i ++ range_same (a + 1) n (λ k low high. same k (omega arith) (omega arith)) i

first_more : {X : Type 0} (fs gs rest later : List X) (x : X) → gs ≡ fs ++ x ∷ [] → later ≡ rest → IsPermutation (gs ++ later) ((fs ++ rest) ++ x ∷ [])
first_more fs gs rest later x here same =
    let left : gs ++ later ≡ fs ++ (x ∷ rest) = (λ i. here i ++ same i) ∙ append_assoc fs (x ∷ []) rest in
    subst (λ ys. IsPermutation ys ((fs ++ rest) ++ x ∷ [])) (sym left)
    (subst (IsPermutation (fs ++ (x ∷ rest))) (sym (append_assoc fs rest (x ∷ []))) (IsPermutation-append_right fs (x ∷ rest) (rest ++ x ∷ []) (IsPermutation-append_comm (x ∷ []) rest)))

later_more : {X : Type 0} (fs gs rest later : List X) (x : X) → gs ≡ fs → IsPermutation later (rest ++ x ∷ []) → IsPermutation (gs ++ later) ((fs ++ rest) ++ x ∷ [])
later_more fs gs rest later x same more =
    subst (λ ys. IsPermutation (ys ++ later) ((fs ++ rest) ++ x ∷ [])) (sym same)
    (subst (IsPermutation (fs ++ later)) (sym (append_assoc fs rest (x ∷ []))) (IsPermutation-append_right fs later (rest ++ x ∷ []) more))

module _ {X : Type 0} (f g : ℕ → List X) (tip : ℕ) (x : X) (here : g tip ≡ f tip ++ x ∷ []) (other : (k : ℕ) → (k ≡ tip → ⊥) → g k ≡ f k) where
  -- one item more at one of the numbers
  pub range_more : (a n : ℕ) → a ≤ tip → tip < a + n → IsPermutation (flat_map g (range_with_len a n)) (flat_map f (range_with_len a n) ++ x ∷ [])
  range_more a zero low high = absurd (omega arith)
  range_more a (suc n) low high =
      by_number a n high (are_same_or_not a tip) (λ ne. let below : a + 1 ≤ tip = omega (arith, ne) in range_more (a + 1) n below (omega arith))
    where
      by_number : (a n : ℕ) → tip < a + suc n → (a ≡ tip) ⊎ (a ≡ tip → ⊥)
          → ((a ≡ tip → ⊥) → IsPermutation (flat_map g (range_with_len (a + 1) n)) (flat_map f (range_with_len (a + 1) n) ++ x ∷ []))
          → IsPermutation (g a ++ flat_map g (range_with_len (a + 1) n)) ((f a ++ flat_map f (range_with_len (a + 1) n)) ++ x ∷ [])
      by_number a n high (inl same) more =
          first_more (f a) (g a) _ _ x (ap g same ∙ here ∙ ap (λ k. f k ++ x ∷ []) (sym same))
          (range_same g f (a + 1) n (λ k low high'. other k (λ e. absurd (omega arith))))
      by_number a n high (inr ne) more = later_more (f a) (g a) _ _ x (other a ne) (more ne)

-- one more number
pub range-push : {X : Type 0} (f : ℕ → List X) (a n : ℕ) → flat_map f (range_with_len a (suc n)) ≡ flat_map f (range_with_len a n) ++ f (a + n)
range-push f a zero = append-nil (f a) ∙ ap f (sym (add-zero a))
range-push f a (suc n) =
    ap (λ ys. f a ++ ys) (range-push f (a + 1) n) ∙ sym (append_assoc (f a) (flat_map f (range_with_len (a + 1) n)) (f (a + 1 + n)))
    ∙ (let e : a + 1 + n ≡ a + suc n = omega arith in ap (λ k. (f a ++ flat_map f (range_with_len (a + 1) n)) ++ f k) e)
