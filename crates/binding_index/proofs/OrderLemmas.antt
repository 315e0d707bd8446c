-- Lists that are put in order, and what is made of their items.
use Rattle.std.proofs.Common.{◌≡◌, ◌∙◌, sym, ap, refl, Bool, true, false, not, cond, List, [], ◌∷◌, ◌++◌}
use Rattle.std.specs.declared.cmp.Ordering.{Ordering}
use Rattle.std.specs.Cmp.{IsTotalOrder}
use Rattle.std.specs.List.{All, filter, flat_map}
use Rattle.std.specs.Ordering.{is_gt}
use Rattle.std.proofs.lemmas.List.Elements.{All-head, All-tail, All-weaker, filter_passes}
use Rattle.std.proofs.lemmas.List.Sorted.{IsPermutation-filter_both}
use Rattle.std.proofs.lemmas.Map.Lookups.{CmpEqualImpliesEq}
use Rattle.event_types.specs.Order.{put, sort_by}
use Rattle.event_types.proofs.SortLemmas.{sort_permuted}

module _ {X : Type 0} (R : X → X → Ordering) {Y : Type 0} (f : X → List Y) where
  -- an item of which nothing is made may be left out
  flat_put : (x : X) (xs : List X) → f x ≡ [] → flat_map f (put R x xs) ≡ flat_map f xs
  flat_put x [] none = ap (λ ys. ys ++ []) none
  flat_put x (y ∷ xs) none =
      elim (is_gt (R x y)) as (λ b. flat_map f (cond b (y ∷ put R x xs) (x ∷ y ∷ xs)) ≡ flat_map f (y ∷ xs)) [
        | true ↦ ap (λ ys. f y ++ ys) (flat_put x xs none)
        | false ↦ ap (λ ys. ys ++ flat_map f (y ∷ xs)) none
      ]

  flat_sort_none : (back front : List X) → All (λ x. f x ≡ []) back → flat_map f (sort_by R (back ++ front)) ≡ flat_map f (sort_by R front)
  flat_sort_none [] front all = refl
  flat_sort_none (x ∷ back) front all =
      flat_put x (sort_by R (back ++ front)) (All-head (λ x. f x ≡ []) x back all) ∙ flat_sort_none back front (All-tail (λ x. f x ≡ []) x back all)

  -- items of which nothing is made may be left out before the order is made
  pub flat_sort_filter : IsTotalOrder R → CmpEqualImpliesEq R → (test : X → Bool) → ((x : X) → test x ≡ false → f x ≡ []) → (xs : List X) → flat_map f (sort_by R (filter test xs)) ≡ flat_map f (sort_by R xs)
  flat_sort_filter total exact test none xs =
      sym (ap (flat_map f) (sort_permuted R total exact xs (filter (λ x. not (test x)) xs ++ filter test xs) (IsPermutation-filter_both (λ x. not (test x)) test (λ x. not_not (test x)) xs))
      ∙ flat_sort_none (filter (λ x. not (test x)) xs) (filter test xs) (All-weaker (λ x. not (test x) ≡ true) (λ x. f x ≡ []) (λ x e. none x (fails (test x) e)) (filter (λ x. not (test x)) xs) (filter_passes (λ x. not (test x)) xs)))
    where
      not_not : (b : Bool) → b ≡ not (not b)
      not_not true = refl
      not_not false = refl

      fails : (b : Bool) → not b ≡ true → b ≡ false
      fails true e = sym e
      fails false e = refl
