-- The definition's sort gives a sorted list.
use Rattle.std.proofs.Common.{◌≡◌, ◌∙◌, ap, refl, ℕ, zero, suc, ◌+◌, Bool, true, false, cond, get_or, List, [], ◌∷◌, subst, arith}
use Rattle.std.specs.declared.cmp.Ordering.{Ordering}
use Rattle.std.specs.declared.cmp.Ordering.TheVariants.{Less, Equal, Greater}
use Rattle.std.specs.Ordering.{is_gt, is_lt, ordering_reverse}
use Rattle.std.specs.Cmp.{IsTotalOrder}
use Rattle.std.specs.List.{All}
use Rattle.std.specs.List.Sorted.{IsSorted}
use Rattle.std.proofs.lemmas.Cmp.{upto}
use Rattle.std.proofs.lemmas.List.Elements.{All-nil, All-cons, All-head, All-tail, All-weaker}
use Rattle.event_types.specs.Order.{put, sort_by}

module _ {X : Type 0} (R : X → X → Ordering) (total : IsTotalOrder R) where
  -- no item is above a later one
  abbrev Rises : List X → Type 0
  Rises [] = Unit {0}
  Rises (x ∷ xs) = All (λ y. is_gt (R x y) ≡ false) xs × Rises xs

  put_all : (P : X → Type 0) (x : X) (xs : List X) → P x → All P xs → All P (put R x xs)
  put_all P x [] one all = All-cons P x [] one all
  put_all P x (y ∷ ys) one all =
      elim (is_gt (R x y)) as (λ b. All P (cond b (y ∷ put R x ys) (x ∷ y ∷ ys))) [
        | true ↦ All-cons P y (put R x ys) (All-head P y ys all) (put_all P x ys one (All-tail P y ys all))
        | false ↦ All-cons P x (y ∷ ys) one all
      ]

  reversed : (o : Ordering) → is_gt o ≡ true → is_gt (ordering_reverse o) ≡ false
  reversed Less e = cc
  reversed Equal e = refl
  reversed Greater e = refl

  put_rises : (x : X) (xs : List X) → Rises xs → Rises (put R x xs)
  put_rises x [] up = (All-nil (λ y. is_gt (R x y) ≡ false), tt)
  put_rises x (y ∷ ys) up = go (put_rises x ys up.1) (is_gt (R x y)) refl
    where
      go : Rises (put R x ys) → (b : Bool) → is_gt (R x y) ≡ b → Rises (cond b (y ∷ put R x ys) (x ∷ y ∷ ys))
      go rest true e = (put_all (λ z. is_gt (R y z) ≡ false) x ys (ap is_gt (total.antisymm y x) ∙ reversed (R x y) e) up.0, rest)
      go rest false e =
          (All-cons (λ z. is_gt (R x z) ≡ false) y ys e (All-weaker (λ z. is_gt (R y z) ≡ false) (λ z. is_gt (R x z) ≡ false) (λ z h. upto total x y z e h) ys up.0), up)

  sort_rises : (xs : List X) → Rises (sort_by R xs)
  sort_rises [] = tt
  sort_rises (x ∷ xs) = put_rises x (sort_by R xs) (sort_rises xs)

  not_below : (o : Ordering) → is_gt o ≡ false → is_lt (ordering_reverse o) ≡ false
  not_below Less e = refl
  not_below Equal e = refl
  not_below Greater e = e

  rises_sorted : (xs : List X) → Rises xs → IsSorted R xs
  rises_sorted [] up k d low high = absurd (omega arith)
  rises_sorted (x ∷ xs) up zero d low high =
      let first = up.0 0 d (omega arith) in ap is_lt (total.antisymm (get_or xs 0 d) x) ∙ not_below (R x (get_or xs 0 d)) first
  rises_sorted (x ∷ xs) up (suc k) d low high =
      let e : suc (k + 1) ≡ suc k + 1 = omega arith in
      subst (λ (n : ℕ). is_lt (R (get_or (x ∷ xs) n d) (get_or xs k d)) ≡ false) e (rises_sorted xs up.1 k d (omega arith) (omega arith))

  -- what is sorted is in order
  pub sort_sorted : (xs : List X) → IsSorted R (sort_by R xs)
  sort_sorted xs = rises_sorted (sort_by R xs) (sort_rises xs)
