-- The first number of a range that passes a test.
use Rattle.std.proofs.Common.{◌≡◌, ◌∙◌, ℕ, zero, suc, ◌+◌, ◌<◌, ◌≤◌, Bool, true, false, cond, refl, sym, ap, subst, inl, inr, arith}
use Rattle.std.specs.Prelude.{Option, Some, None}
use Rattle.std.specs.List.{find, range_with_len}
use Rattle.std.proofs.lemmas.Bool.{cases_Bool, cases_eq, cases_lt}
use Rattle.resubscribe.specs.Outcome.{IsFirstFrom}

-- none passes, so none is found
pub find-none : (p : ℕ → Bool) (a n : ℕ) → ((k : ℕ) → a ≤ k → k < a + n → p k ≡ false) → find p (range_with_len a n) ≡ None
find-none p a zero none = refl
find-none p a (suc n) none =
    ap (λ b. cond b (Some a) (find p (range_with_len (a + 1) n))) (none a (omega arith) (omega arith)) ∙ find-none p (a + 1) n (λ k low high. none k (omega arith) (omega arith))

-- the first that passes is found
pub find-some : (p : ℕ → Bool) (a n q : ℕ) → a ≤ q → q < a + n → p q ≡ true → ((k : ℕ) → a ≤ k → k < q → p k ≡ false) → find p (range_with_len a n) ≡ Some q
find-some p a zero q low high passes none = absurd (omega arith)
find-some p a (suc n) q low high passes none = elim (cases_eq a q) [
  | inl same ↦ ap (λ b. cond b (Some a) (find p (range_with_len (a + 1) n))) (ap p same ∙ passes) ∙ ap Some same
  | inr other ↦ ap (λ b. cond b (Some a) (find p (range_with_len (a + 1) n))) (none a (omega arith) (omega arith))
      ∙ find-some p (a + 1) n q (omega arith) (omega arith) passes (λ k more less. none k (omega arith) less)
]

-- what is found is the first that passes
found-cons : (p : ℕ → Bool) (a n : ℕ) (o : Option ℕ) → p a ≡ false → IsFirstFrom p (a + 1) (a + 1 + n) o → IsFirstFrom p a (a + suc n) o
found-cons p a n None fails rest = λ k low high. elim (cases_eq a k) [ inl same ↦ ap p (sym same) ∙ fails | inr other ↦ rest k (omega arith) (omega arith) ]
found-cons p a n (Some q) fails (low, high, passes, none) =
    (omega arith, omega arith, passes, λ k more less. elim (cases_eq a k) [ inl same ↦ ap p (sym same) ∙ fails | inr other ↦ none k (omega arith) less ])

-- what `find` gives over a range is the first number there that passes
pub found : (p : ℕ → Bool) (a n : ℕ) → IsFirstFrom p a (a + n) (find p (range_with_len a n))
found p a zero = λ k low high. absurd (omega arith)
found p a (suc n) = elim (cases_Bool (p a)) [
  | inl hit ↦ subst (λ (b : Bool). IsFirstFrom p a (a + suc n) (cond b (Some a) (find p (range_with_len (a + 1) n)))) (sym hit) (omega arith, omega arith, hit, λ k low high. absurd (omega arith))
  | inr miss ↦ subst (λ (b : Bool). IsFirstFrom p a (a + suc n) (cond b (Some a) (find p (range_with_len (a + 1) n)))) (sym miss) (found-cons p a n (find p (range_with_len (a + 1) n)) miss (found p (a + 1) n))
]

-- from 0 on
pub found_below : (p : ℕ → Bool) (n : ℕ) (o : Option ℕ) → find p (range_with_len 0 n) ≡ o → IsFirstFrom p 0 n o
found_below p n o e = subst (IsFirstFrom p 0 n) e (let z : 0 + n ≡ n = omega arith in subst (λ (m : ℕ). IsFirstFrom p 0 m (find p (range_with_len 0 n))) z (found p 0 n))

-- none passes below a place, nor from there to another
pub none_below : (p : ℕ → Bool) (from high : ℕ) → ((k : ℕ) → k < from → p k ≡ false) → ((k : ℕ) → from ≤ k → k < high → p k ≡ false) → (k : ℕ) → k < high → p k ≡ false
none_below p from high below above k less = elim (cases_lt k from) [ inl early ↦ below k early | inr late ↦ above k late less ]
