-- The results of queries in one list.
use Rattle.std.proofs.Common.{◌≡◌, ◌∙◌, sym, ap, subst, refl, ℕ, zero, suc, ◌+◌, ◌<◌, List, [], ◌∷◌, ◌++◌, map, length, get_or, take, append_assoc, append-nil, arith}
use Rattle.std.specs.declared.cmp.Ordering.{Ordering}
use Rattle.std.specs.declared.cmp.Ordering.TheVariants.{Less, Equal, Greater}
use Rattle.std.specs.List.{All, flat_map}
use Rattle.std.specs.List.Sorted.{IsPermutation}
use Rattle.std.specs.Ordering.{nat_cmp, ordering_then}
use Rattle.std.proofs.lemmas.List.{map-append}
use Rattle.std.proofs.lemmas.List.Sorted.{IsPermutation-append, IsPermutation-append_comm, IsPermutation-refl, IsPermutation-sym, IsPermutation-trans, All-permutation}
use Rattle.std.proofs.lemmas.Map.Lookups.{CmpEqualImpliesEq, exact_unsigned}
use Rattle.event_types.specs.Order.{sort_by}
use Rattle.event_types.proofs.SortLemmas.{sort_permuted, sort_permutes}
use Rattle.derivations.specs.DerivationOrder.{derived_cmp}
use Rattle.derivations.specs.DerivationOrderLaws.{derived_exact}
use Rattle.derivations.specs.DerivedTuples.{DerivedTuple}
use Rattle.explanation.specs.Explained.{explained_cmp, result_of, results_from, results_in_order}
use Rattle.explanation.specs.ExplainedLaws.{explained_total}
use Rattle.explanation.specs.declared.results.Explained.{Explained}

-- both parts of a tie tie
both_equal : (o p : Ordering) → ordering_then o p ≡ Equal → (o ≡ Equal) × (p ≡ Equal)
both_equal Less p e = cc
both_equal Equal p e = (refl, e)
both_equal Greater p e = cc

-- results that tie are one
pub explained_exact : CmpEqualImpliesEq explained_cmp
explained_exact x y e =
    let both = both_equal (ordering_then (nat_cmp x.derived.tuple.at y.derived.tuple.at) (nat_cmp x.query y.query)) (derived_cmp x.derived y.derived) e in
    let first = both_equal (nat_cmp x.derived.tuple.at y.derived.tuple.at) (nat_cmp x.query y.query) both.0 in
    λ i. record { query = exact_unsigned x.query y.query first.1 i; derived = derived_exact x.derived y.derived both.1 i }

-- a tuple that moves from the end of one list to the end of another
pub one_moved : (query : ℕ) (left : List DerivedTuple) (x : DerivedTuple) (results : List Explained)
    → IsPermutation (map (result_of query) (left ++ x ∷ []) ++ results) (map (result_of query) left ++ (results ++ result_of query x ∷ []))
one_moved query left x results =
    let here = map (result_of query) left in
    let one = result_of query x ∷ [] in
    subst (λ (xs : List Explained). IsPermutation xs (here ++ (results ++ one)))
    (sym (ap (λ (xs : List Explained). xs ++ results) (map-append (result_of query) left (x ∷ [])) ∙ append_assoc here one results))
    (IsPermutation-append here here (one ++ results) (results ++ one) (IsPermutation-refl here) (IsPermutation-append_comm one results))

-- the results of one query more, whose list stands last
results_last : (first : ℕ) (table : List (List DerivedTuple)) (found : List DerivedTuple) → results_from first (table ++ found ∷ []) ≡ results_from first table ++ map (result_of (first + length table)) found
results_last first [] found = append-nil (map (result_of first) found) ∙ ap (λ n. map (result_of n) found) (the_same first)
  where
    the_same : (n : ℕ) → n ≡ n + 0
    the_same n = omega arith
results_last first (list ∷ table) found =
    ap (λ rest. map (result_of first) list ++ rest) (results_last (first + 1) table found) ∙ sym (append_assoc (map (result_of first) list) (results_from (first + 1) table) (map (result_of (first + 1 + length table)) found))
    ∙ ap (λ n. results_from first (list ∷ table) ++ map (result_of n) found) (the_next first (length table))
  where
    the_next : (n m : ℕ) → n + 1 + m ≡ n + suc m
    the_next n m = omega arith

-- the list of the last query was moved
pub list_moved : (table : List (List DerivedTuple)) (found : List DerivedTuple) (results more : List Explained) → IsPermutation (map (result_of (length table)) found ++ results) more
    → IsPermutation (results_from 0 (table ++ found ∷ []) ++ results) (results_from 0 table ++ more)
list_moved table found results more moved =
    let front = results_from 0 table in
    let none_more : 0 + length table ≡ length table = omega arith in
    subst (λ (xs : List Explained). IsPermutation xs (front ++ more))
    (sym (ap (λ (xs : List Explained). xs ++ results) (results_last 0 table found ∙ ap (λ n. front ++ map (result_of n) found) none_more) ∙ append_assoc front (map (result_of (length table)) found) results))
    (IsPermutation-append front front (map (result_of (length table)) found ++ results) more (IsPermutation-refl front) moved)

-- one item more, behind those before it
pub flat_map_more : {X : Type 0} (f : X → List ℕ) (xs : List X) (i : ℕ) (x : X) → i < length xs → x ≡ get_or xs i x → flat_map f (take (suc i) xs) ≡ flat_map f (take i xs) ++ f x
flat_map_more f [] i x small is = absurd (omega (arith, small))
flat_map_more f (y ∷ ys) zero x small is = append-nil (f y) ∙ ap f (sym is)
flat_map_more f (y ∷ ys) (suc i) x small is = ap (λ rest. f y ++ rest) (flat_map_more f ys i x (omega (arith, small)) is) ∙ sym (append_assoc (f y) (flat_map f (take i ys)) (f x))

-- results in order are those that were moved, in order
pub in_order_moved : (table : List (List DerivedTuple)) (results : List Explained) → IsPermutation (results_from 0 table) results → sort_by explained_cmp results ≡ results_in_order table
in_order_moved table results moved = sym (sort_permuted explained_cmp explained_total explained_exact (results_from 0 table) results moved)

-- what holds of all results holds of them in order
pub all_in_order : (P : Explained → Type 0) (table : List (List DerivedTuple)) → All P (results_from 0 table) → All P (results_in_order table)
all_in_order P table all =
    All-permutation P (results_from 0 table) (results_in_order table) (IsPermutation-sym _ _ (sort_permutes explained_cmp explained_total (results_from 0 table))) all

-- pieces of a text one behind another
pub told_text : (text line space by : List ℕ) → (((text ++ line) ++ space) ++ by) ++ 10 ∷ [] ≡ text ++ (line ++ (space ++ (by ++ 10 ∷ [])))
told_text text line space by =
    append_assoc ((text ++ line) ++ space) by (10 ∷ []) ∙ append_assoc (text ++ line) space (by ++ 10 ∷ []) ∙ append_assoc text line (space ++ (by ++ 10 ∷ []))

-- a list with no first item
pub nothing_left : {X : Type 0} (xs : List X) → (0 < length xs → ⊥) → xs ≡ []
nothing_left [] none = refl
nothing_left (x ∷ xs) none = absurd (none (omega arith))
