-- The same parts have one canonical form.
use Rattle.std.proofs.Common.{◌≡◌, ◌∙◌, sym, ap, refl, Bool, true, false, ◌||◌, cond, List, [], ◌∷◌}
use Rattle.std.specs.declared.cmp.Ordering.{Ordering}
use Rattle.std.specs.BTreeSet.{BTreeSet}
use Rattle.std.specs.List.{dedup, dedup_from, list_any}
use Rattle.std.specs.Ordering.{is_gt, eq_by_cmp}
use Rattle.std.proofs.lemmas.List.Kept.{IsStrictlySortedBy-dedup}
use Rattle.std.proofs.lemmas.Map.Lookups.{CmpEqualImpliesEq, btree_set_from_contains}
use Rattle.event_types.specs.Order.{put, sort_by}
use Rattle.semantics.specs.Scalars.{Pr}
use Rattle.scalar_expr.specs.TermOrder.{pr_cmp}
use Rattle.scalar_expr.specs.TermOrderLaws.{pr_total}
use Rattle.scalar_expr.proofs.TermOrderLemmas.{pr_exact}
use Rattle.scalar_expr.specs.Canonical.{AreCanonical, distinct_parts}
use Rattle.scalar_expr.specs.CanonicalLaws.{is_part}
use Rattle.scalar_expr.proofs.CanonicalLaws.{tied}
use Rattle.scalar_expr.proofs.SortedLemmas.{sort_sorted}

or_swap : (x y z : Bool) → (x || (y || z)) ≡ (y || (x || z))
or_swap true true z = refl
or_swap true false z = refl
or_swap false true z = refl
or_swap false false z = refl

or_twice : (x y : Bool) → (x || y) ≡ (x || (x || y))
or_twice true y = refl
or_twice false y = refl

-- whether a test holds of some item is the same of the sorted items, each once
module _ {X : Type 0} (R : X → X → Ordering) (exact : CmpEqualImpliesEq R) (test : X → Bool) where
  any_put : (x : X) (xs : List X) → list_any test (put R x xs) ≡ (test x || list_any test xs)
  any_put x [] = refl
  any_put x (y ∷ ys) =
      elim (is_gt (R x y)) as (λ b. list_any test (cond b (y ∷ put R x ys) (x ∷ y ∷ ys)) ≡ (test x || (test y || list_any test ys))) [
        | true ↦ ap (λ b. test y || b) (any_put x ys) ∙ or_swap (test y) (test x) (list_any test ys)
        | false ↦ refl
      ]

  any_sort : (xs : List X) → list_any test (sort_by R xs) ≡ list_any test xs
  any_sort [] = refl
  any_sort (x ∷ xs) = any_put x (sort_by R xs) ∙ ap (λ b. test x || b) (any_sort xs)

  any_dedup_from : (k : X) (xs : List X) → list_any test (dedup_from (eq_by_cmp R) k xs) ≡ (test k || list_any test xs)
  any_dedup_from k [] = refl
  any_dedup_from k (x ∷ xs) = go (any_dedup_from k xs) (any_dedup_from x xs) (eq_by_cmp R x k) refl
    where
      go : list_any test (dedup_from (eq_by_cmp R) k xs) ≡ (test k || list_any test xs) → list_any test (dedup_from (eq_by_cmp R) x xs) ≡ (test x || list_any test xs) → (b : Bool) → eq_by_cmp R x k ≡ b
          → list_any test (cond b (dedup_from (eq_by_cmp R) k xs) (k ∷ dedup_from (eq_by_cmp R) x xs)) ≡ (test k || (test x || list_any test xs))
      go same other true e = same ∙ or_twice (test k) (list_any test xs) ∙ ap (λ y. test k || (test y || list_any test xs)) (sym (tied R exact x k e))
      go same other false e = ap (λ b. test k || b) other

  any_dedup : (xs : List X) → list_any test (dedup (eq_by_cmp R) xs) ≡ list_any test xs
  any_dedup [] = refl
  any_dedup (x ∷ xs) = any_dedup_from x xs

-- a part is among the canonical ones where it is among the parts
part_stays : (parts : List Pr) (p : Pr) → is_part (distinct_parts parts) p ≡ is_part parts p
part_stays parts p =
    let test = eq_by_cmp pr_cmp p in any_dedup pr_cmp pr_exact test (sort_by pr_cmp parts) ∙ any_sort pr_cmp pr_exact test parts

-- parts in their canonical order, each once, are so
pub distinct_parts-canonical : (parts : List Pr) → AreCanonical (distinct_parts parts)
distinct_parts-canonical parts = IsStrictlySortedBy-dedup pr_total (λ p q. refl) (sort_by pr_cmp parts) (sort_sorted pr_cmp pr_total parts)

-- the same parts have one form
pub same_form : (parts others : List Pr) → ((p : Pr) → is_part parts p ≡ is_part others p) → distinct_parts parts ≡ distinct_parts others
same_form parts others same =
    let mine : BTreeSet Pr = record { keys = distinct_parts parts } in
    let theirs : BTreeSet Pr = record { keys = distinct_parts others } in
    btree_set_from_contains pr_total mine theirs (distinct_parts-canonical parts) (distinct_parts-canonical others) (λ p. part_stays parts p ∙ same p ∙ sym (part_stays others p)) pr_exact
