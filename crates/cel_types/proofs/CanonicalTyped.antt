-- The canonical form of a typed predicate has typed parts.
use Rattle.std.proofs.Common.{true, false, cond, List, [], ◌∷◌}
use Rattle.std.specs.Prelude.{Option}
use Rattle.std.specs.declared.cmp.Ordering.{Ordering}
use Rattle.std.specs.List.{All, dedup, dedup_from}
use Rattle.std.specs.Ordering.{is_gt, eq_by_cmp}
use Rattle.std.proofs.lemmas.List.Elements.{All-nil, All-cons, All-head, All-tail, All-append}
use Rattle.event_types.specs.declared.comparison.Cmp.{Cmp}
use Rattle.event_types.specs.declared.comparison.Cmp.TheVariants as cmp
use Rattle.event_types.specs.declared.kind.Kind.{Kind}
use Rattle.event_types.specs.Order.{put, sort_by}
use Rattle.semantics.specs.Scalars.{Sc, Pr, True, Test, And, Or, Not}
use Rattle.semantics.specs.Typing.{IsTyped, AreTyped}
use Rattle.scalar_expr.specs.Canonical.{canonical, conjuncts, test_in_order, turned, turned_test}
use Rattle.scalar_expr.specs.TermOrder.{sc_cmp, pr_cmp}

-- what holds of all items holds of the sorted items, and of each once
module _ {X : Type 0} (R : X → X → Ordering) (P : X → Type 0) where
  All-put : (x : X) (xs : List X) → P x → All P xs → All P (put R x xs)
  All-put x [] here all = All-cons P x [] here (All-nil P)
  All-put x (y ∷ ys) here all =
      elim (is_gt (R x y)) as (λ b. All P (cond b (y ∷ put R x ys) (x ∷ y ∷ ys))) [
        | true ↦ All-cons P y (put R x ys) (All-head P y ys all) (All-put x ys here (All-tail P y ys all))
        | false ↦ All-cons P x (y ∷ ys) here all
      ]

  All-sort : (xs : List X) → All P xs → All P (sort_by R xs)
  All-sort [] all = all
  All-sort (x ∷ xs) all = All-put x (sort_by R xs) (All-head P x xs all) (All-sort xs (All-tail P x xs all))

  All-dedup_from : (k : X) (xs : List X) → P k → All P xs → All P (dedup_from (eq_by_cmp R) k xs)
  All-dedup_from k [] here all = All-cons P k [] here (All-nil P)
  All-dedup_from k (x ∷ xs) here all =
      elim (eq_by_cmp R x k) as (λ b. All P (cond b (dedup_from (eq_by_cmp R) k xs) (k ∷ dedup_from (eq_by_cmp R) x xs))) [
        | true ↦ All-dedup_from k xs here (All-tail P x xs all)
        | false ↦ All-cons P k (dedup_from (eq_by_cmp R) x xs) here (All-dedup_from x xs (All-head P x xs all) (All-tail P x xs all))
      ]

  All-dedup : (xs : List X) → All P xs → All P (dedup (eq_by_cmp R) xs)
  All-dedup [] all = all
  All-dedup (x ∷ xs) all = All-dedup_from x xs (All-head P x xs all) (All-tail P x xs all)

module _ (event : List Kind) (binding : Option (List Kind)) where
  in_order-typed : (c : Cmp) (x y : Sc) → IsTyped (Test x c y) event binding → IsTyped (test_in_order c x y) event binding
  in_order-typed c x y (k, i, j) =
      elim (is_gt (sc_cmp x y)) as (λ b. IsTyped (cond b (Test y c x) (Test x c y)) event binding) [ true ↦ (k, j, i) | false ↦ (k, i, j) ]

  turned_test-typed : (x : Sc) (c : Cmp) (y : Sc) → IsTyped (Test x c y) event binding → IsTyped (turned_test x c y) event binding
  turned_test-typed x cmp.Eq y h = in_order-typed cmp.Eq x y h
  turned_test-typed x cmp.Ne y h = in_order-typed cmp.Ne x y h
  turned_test-typed x cmp.Lt y h = h
  turned_test-typed x cmp.Le y h = h
  turned_test-typed x cmp.Gt y (k, i, j) = (k, j, i)
  turned_test-typed x cmp.Ge y (k, i, j) = (k, j, i)

  turned-typed : (p : Pr) → IsTyped p event binding → IsTyped (turned p) event binding
  turned-typed True h = h
  turned-typed (Test x c y) h = turned_test-typed x c y h
  turned-typed (And p q) (h, i) = (turned-typed p h, turned-typed q i)
  turned-typed (Or p q) (h, i) = (turned-typed p h, turned-typed q i)
  turned-typed (Not p) h = turned-typed p h

  conjuncts-typed : (p : Pr) → IsTyped p event binding → AreTyped (conjuncts p) event binding
  conjuncts-typed True h = All-nil (λ (q : Pr). IsTyped q event binding)
  conjuncts-typed (Test x c y) h = All-cons (λ (q : Pr). IsTyped q event binding) (Test x c y) [] h (All-nil (λ (q : Pr). IsTyped q event binding))
  conjuncts-typed (And p q) (h, i) = All-append (λ (r : Pr). IsTyped r event binding) (conjuncts p) (conjuncts q) (conjuncts-typed p h) (conjuncts-typed q i)
  conjuncts-typed (Or p q) h = All-cons (λ (r : Pr). IsTyped r event binding) (Or p q) [] h (All-nil (λ (r : Pr). IsTyped r event binding))
  conjuncts-typed (Not p) h = All-cons (λ (q : Pr). IsTyped q event binding) (Not p) [] h (All-nil (λ (q : Pr). IsTyped q event binding))

  -- the canonical form of a typed predicate is typed
  pub canonical-typed : (p : Pr) → IsTyped p event binding → AreTyped (canonical p) event binding
  canonical-typed p h =
      let P = λ (q : Pr). IsTyped q event binding in
      let parts = conjuncts (turned p) in All-dedup pr_cmp P (sort_by pr_cmp parts) (All-sort pr_cmp P parts (conjuncts-typed (turned p) (turned-typed p h)))
