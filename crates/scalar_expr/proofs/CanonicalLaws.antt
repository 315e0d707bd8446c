-- The canonical form keeps the truth, and the same parts have one form.
use Rattle.std.proofs.Common.{◌≡◌, ◌∙◌, sym, ap, refl, ℕ, ◌==◌, Bool, true, false, not, ◌&&◌, ◌||◌, cond, List, [], ◌∷◌, arith}
use Rattle.std.specs.Prelude.{Option, Some, None}
use Rattle.std.specs.declared.cmp.Ordering.{Ordering}
use Rattle.std.specs.declared.cmp.Ordering.TheVariants.{Less, Equal, Greater}
use Rattle.std.specs.List.{dedup, dedup_from, list_all}
use Rattle.std.specs.Ordering.{int_cmp, nat_cmp, is_eq, is_gt, eq_by_cmp, ordering_reverse}
use Rattle.std.specs.Cmp.Lexicographic.{slice_cmp}
use Rattle.std.proofs.lemmas.Bool.Decides.{nat_tests}
use Rattle.std.proofs.lemmas.Cmp.{int_cmp_total, nat_list_cmp_total}
use Rattle.std.proofs.lemmas.List.Folds.{list_all-append}
use Rattle.std.proofs.lemmas.Map.Lookups.{CmpEqualImpliesEq}
use Rattle.event_types.specs.declared.comparison.Cmp.{Cmp}
use Rattle.event_types.specs.declared.comparison.Cmp.TheVariants as cmp
use Rattle.event_types.specs.declared.value.Value.{Value}
use Rattle.event_types.specs.declared.value.Value.TheVariants as value
use Rattle.event_types.specs.Order.{put, sort_by}
use Rattle.event_types.specs.Tuple.{TupleView}
use Rattle.semantics.specs.Scalars.{Sc, Pr, True, Test, And, Or, Not}
use Rattle.semantics.specs.Values.{val}
use Rattle.semantics.specs.Truth.{truth, all_true, order_of, is_accepted, is_met}
use Rattle.scalar_expr.specs.TermOrder.{sc_cmp, pr_cmp}
use Rattle.scalar_expr.proofs.TermOrderLemmas.{pr_exact}
use Rattle.scalar_expr.specs.Canonical.{canonical, conjuncts, distinct_parts, test_in_order, turned, turned_test}
use Rattle.scalar_expr.specs.Classes.{exchanged}

and_swap : (x y z : Bool) → (x && (y && z)) ≡ (y && (x && z))
and_swap true true z = refl
and_swap true false z = refl
and_swap false true z = refl
and_swap false false z = refl

and_twice : (x y : Bool) → (x && y) ≡ (x && (x && y))
and_twice true y = refl
and_twice false y = refl

and-true : (x : Bool) → (x && true) ≡ x
and-true true = refl
and-true false = refl

-- items that tie are one
pub tied : {X : Type 0} (R : X → X → Ordering) → CmpEqualImpliesEq R → (x y : X) → eq_by_cmp R x y ≡ true → x ≡ y
tied R exact x y e = exact x y (equal (R x y) e)
  where
    equal : (o : Ordering) → is_eq o ≡ true → o ≡ Equal
    equal Less h = cc
    equal Equal h = refl
    equal Greater h = cc

-- whether a test holds of all items is the same of the sorted items, each once
module _ {X : Type 0} (R : X → X → Ordering) (exact : CmpEqualImpliesEq R) (test : X → Bool) where
  all_put : (x : X) (xs : List X) → list_all test (put R x xs) ≡ (test x && list_all test xs)
  all_put x [] = refl
  all_put x (y ∷ ys) =
      elim (is_gt (R x y)) as (λ b. list_all test (cond b (y ∷ put R x ys) (x ∷ y ∷ ys)) ≡ (test x && (test y && list_all test ys))) [
        | true ↦ ap (λ b. test y && b) (all_put x ys) ∙ and_swap (test y) (test x) (list_all test ys)
        | false ↦ refl
      ]

  all_sort : (xs : List X) → list_all test (sort_by R xs) ≡ list_all test xs
  all_sort [] = refl
  all_sort (x ∷ xs) = all_put x (sort_by R xs) ∙ ap (λ b. test x && b) (all_sort xs)

  all_dedup_from : (k : X) (xs : List X) → list_all test (dedup_from (eq_by_cmp R) k xs) ≡ (test k && list_all test xs)
  all_dedup_from k [] = refl
  all_dedup_from k (x ∷ xs) = go (all_dedup_from k xs) (all_dedup_from x xs) (eq_by_cmp R x k) refl
    where
      go : list_all test (dedup_from (eq_by_cmp R) k xs) ≡ (test k && list_all test xs) → list_all test (dedup_from (eq_by_cmp R) x xs) ≡ (test x && list_all test xs) → (b : Bool) → eq_by_cmp R x k ≡ b
          → list_all test (cond b (dedup_from (eq_by_cmp R) k xs) (k ∷ dedup_from (eq_by_cmp R) x xs)) ≡ (test k && (test x && list_all test xs))
      go same other true e = same ∙ and_twice (test k) (list_all test xs) ∙ ap (λ y. test k && (test y && list_all test xs)) (sym (tied R exact x k e))
      go same other false e = ap (λ b. test k && b) other

  all_dedup : (xs : List X) → list_all test (dedup (eq_by_cmp R) xs) ≡ list_all test xs
  all_dedup [] = refl
  all_dedup (x ∷ xs) = all_dedup_from x xs

-- the parts in their canonical form are true where all of them are
pub parts_keep_truth : (parts : List Pr) (event : TupleView) (binding : Option TupleView) → all_true (distinct_parts parts) event binding ≡ all_true parts event binding
parts_keep_truth parts event binding =
    let test = λ (p : Pr). truth p event binding in all_dedup pr_cmp pr_exact test (sort_by pr_cmp parts) ∙ all_sort pr_cmp pr_exact test parts

-- whether an order is accepted does not change where the operands and the comparison turn round
turned_accepted : (c : Cmp) (o : Ordering) → is_accepted c (ordering_reverse o) ≡ is_accepted (exchanged c) o
turned_accepted cmp.Eq Less = refl
turned_accepted cmp.Eq Equal = refl
turned_accepted cmp.Eq Greater = refl
turned_accepted cmp.Ne Less = refl
turned_accepted cmp.Ne Equal = refl
turned_accepted cmp.Ne Greater = refl
turned_accepted cmp.Lt Less = refl
turned_accepted cmp.Lt Equal = refl
turned_accepted cmp.Lt Greater = refl
turned_accepted cmp.Le Less = refl
turned_accepted cmp.Le Equal = refl
turned_accepted cmp.Le Greater = refl
turned_accepted cmp.Gt Less = refl
turned_accepted cmp.Gt Equal = refl
turned_accepted cmp.Gt Greater = refl
turned_accepted cmp.Ge Less = refl
turned_accepted cmp.Ge Equal = refl
turned_accepted cmp.Ge Greater = refl

-- a test of two numbers is the same either way
same_either_way : (m n : ℕ) → (n == m) ≡ (m == n)
same_either_way m n = grind (arith, nat_tests)

-- a comparison holds where the exchanged one holds of the exchanged operands
pub turned_met : (c : Cmp) (v w : Value) → is_met c (order_of w v) ≡ is_met (exchanged c) (order_of v w)
turned_met c (value.Int x) (value.Int y) = ap (is_accepted c) (int_cmp_total.antisymm y x) ∙ turned_accepted c (int_cmp x y)
turned_met c (value.Text x) (value.Text y) = ap (is_accepted c) (nat_list_cmp_total.antisymm y x) ∙ turned_accepted c (slice_cmp nat_cmp x y)
turned_met c (value.Dec s x) (value.Dec t y) =
    ap (λ b. is_met c (cond b (Some (int_cmp y x)) None)) (same_either_way s t) ∙ one_scale (s == t)
  where
    one_scale : (b : Bool) → is_met c (cond b (Some (int_cmp y x)) None) ≡ is_met (exchanged c) (cond b (Some (int_cmp x y)) None)
    one_scale true = ap (is_accepted c) (int_cmp_total.antisymm y x) ∙ turned_accepted c (int_cmp x y)
    one_scale false = refl
turned_met c value.Over value.Over = refl
turned_met c v w = refl

in_order_keeps : (c : Cmp) → exchanged c ≡ c → (x y : Sc) (event : TupleView) (binding : Option TupleView) → truth (test_in_order c x y) event binding ≡ truth (Test x c y) event binding
in_order_keeps c same x y event binding =
    elim (is_gt (sc_cmp x y)) as (λ b. truth (cond b (Test y c x) (Test x c y)) event binding ≡ truth (Test x c y) event binding) [
      | true ↦ turned_met c (val x event binding) (val y event binding) ∙ ap (λ d. is_met d (order_of (val x event binding) (val y event binding))) same
      | false ↦ refl
    ]

turned_keeps_test : (x : Sc) (c : Cmp) (y : Sc) (event : TupleView) (binding : Option TupleView) → truth (turned_test x c y) event binding ≡ truth (Test x c y) event binding
turned_keeps_test x cmp.Eq y event binding = in_order_keeps cmp.Eq refl x y event binding
turned_keeps_test x cmp.Ne y event binding = in_order_keeps cmp.Ne refl x y event binding
turned_keeps_test x cmp.Lt y event binding = refl
turned_keeps_test x cmp.Le y event binding = refl
turned_keeps_test x cmp.Gt y event binding = turned_met cmp.Lt (val x event binding) (val y event binding)
turned_keeps_test x cmp.Ge y event binding = turned_met cmp.Le (val x event binding) (val y event binding)

turned_keeps : (p : Pr) (event : TupleView) (binding : Option TupleView) → truth (turned p) event binding ≡ truth p event binding
turned_keeps True event binding = refl
turned_keeps (Test x c y) event binding = turned_keeps_test x c y event binding
turned_keeps (And p q) event binding = λ i. turned_keeps p event binding i && turned_keeps q event binding i
turned_keeps (Or p q) event binding = λ i. turned_keeps p event binding i || turned_keeps q event binding i
turned_keeps (Not p) event binding = ap not (turned_keeps p event binding)

conjuncts_keep : (p : Pr) (event : TupleView) (binding : Option TupleView) → all_true (conjuncts p) event binding ≡ truth p event binding
conjuncts_keep True event binding = refl
conjuncts_keep (Test x c y) event binding = and-true (truth (Test x c y) event binding)
conjuncts_keep (And p q) event binding =
    list_all-append (λ r. truth r event binding) (conjuncts p) (conjuncts q) ∙ (λ i. conjuncts_keep p event binding i && conjuncts_keep q event binding i)
conjuncts_keep (Or p q) event binding = and-true (truth (Or p q) event binding)
conjuncts_keep (Not p) event binding = and-true (truth (Not p) event binding)

-- the canonical form is true where the predicate is
pub canonical_keeps_truth : (p : Pr) (event : TupleView) (binding : Option TupleView) → all_true (canonical p) event binding ≡ truth p event binding
canonical_keeps_truth p event binding = parts_keep_truth (conjuncts (turned p)) event binding ∙ conjuncts_keep (turned p) event binding ∙ turned_keeps p event binding
