-- What is known of the nexts of a binding.
use Rattle.std.proofs.Common.{◌≡◌, refl, ◌<◌, Bool, true, false, ◌&&◌, nat_le, nat_lt, List, arith}
use Rattle.std.proofs.lemmas.Bool.Decides.{nat_tests}
use Rattle.std.proofs.lemmas.List.Elements.{All-filter, All-weaker, filter_agree, filter_passes}
use Rattle.std.specs.List.{All, filter}
use Rattle.std.specs.List.Sorted.{IsPermutation}
use Rattle.event_types.specs.Tuple.{TupleView}
use Rattle.semantics.specs.Scalars.{Pr}
use Rattle.semantics.specs.Nexts.{earliest, is_earliest, is_eligible, nexts}
use Rattle.scalar_expr.proofs.Bags.{filter_permuted, list_all_permuted, permuted_from}

-- of a true conjunction the first part is true
first_true : (x y : Bool) → (x && y) ≡ true → x ≡ true
first_true true y e = refl
first_true false y e = e

-- an eligible tuple starts after the binding was detected
eligible_starts_later : (condition : List Pr) (binding tuple : TupleView) → is_eligible condition binding tuple ≡ true → binding.at < tuple.from
eligible_starts_later condition binding tuple e = let later : nat_lt binding.at tuple.from ≡ true = first_true _ _ e in grind (arith, nat_tests)

-- so do the nexts
pub nexts_start_later : (condition : List Pr) (binding : TupleView) (tuples : List TupleView) → All (λ tuple. binding.at < tuple.from) (nexts condition binding tuples)
nexts_start_later condition binding tuples =
    let eligible = filter (is_eligible condition binding) tuples in
    All-filter (is_earliest eligible) (λ tuple. binding.at < tuple.from) eligible
    (All-weaker (λ tuple. is_eligible condition binding tuple ≡ true) (λ tuple. binding.at < tuple.from) (eligible_starts_later condition binding) eligible (filter_passes (is_eligible condition binding) tuples))

-- what holds of each tuple of the list holds of each of the nexts
pub nexts_keep : (P : TupleView → Type 0) (condition : List Pr) (binding : TupleView) (tuples : List TupleView) → All P tuples → All P (nexts condition binding tuples)
nexts_keep P condition binding tuples all =
    All-filter (is_earliest (filter (is_eligible condition binding) tuples)) P _ (All-filter (is_eligible condition binding) P tuples all)

earliest_permuted : (xs ys : List TupleView) → IsPermutation xs ys → IsPermutation (earliest xs) (earliest ys)
earliest_permuted xs ys h =
    permuted_from (filter_agree (is_earliest xs) (is_earliest ys) (λ tuple. list_all_permuted (λ other. nat_le tuple.at other.at) xs ys h) xs) (filter_permuted (is_earliest ys) xs ys h)

-- the order of the tuples does not matter
pub nexts_permuted : (condition : List Pr) (binding : TupleView) (tuples others : List TupleView) → IsPermutation tuples others → IsPermutation (nexts condition binding tuples) (nexts condition binding others)
nexts_permuted condition binding tuples others h = earliest_permuted _ _ (filter_permuted (is_eligible condition binding) tuples others h)
