use Rattle.std.proofs.Common.{◌≡◌, ◌∙◌, ◌++◌, [], append-nil, map, subst, sym, List, ℕ}
use Rattle.std.specs.List.Sorted.{IsPermutation}
use Rattle.std.proofs.lemmas.List.Sorted.{IsPermutation-refl, IsPermutation-trans}
use Rattle.derivations.specs.DerivedTuples.{DerivedTuple}
use Rattle.explanation.specs.Explained.{result_of, results_from}
use Rattle.explanation.specs.declared.results.Explained.{Explained}
use Rattle.explanation.proofs.ResultLemmas.{in_order_moved, list_moved, nothing_left}
use Rattle.explanation.proofs.results.in_order.Goals as goal

-- nothing was moved yet
pub queries-init : goal.queries-init
queries-init c =
    let all = results_from 0 c.args.table in
    subst (λ (results : List Explained). IsPermutation all (all ++ results)) (sym c.new-results.ensures) (subst (IsPermutation all) (sym (append-nil all)) (IsPermutation-refl all))

-- the results of one more query were
pub queries-preserved : goal.queries-preserved
queries-preserved c =
    let all = results_from 0 c.args.table in
    let left = c.pop.new.self in
    let before = subst (λ (table : List (List DerivedTuple)). IsPermutation all (results_from 0 table ++ c.queries.results)) c.in-Some.ensures.items c.queries.invariant in
    IsPermutation-trans _ _ _ before
    (list_moved left c.in-Some.found c.queries.results c.move_results.new.results (subst (λ (n : ℕ). IsPermutation (map (result_of n) c.in-Some.found ++ c.queries.results) c.move_results.new.results) c.len.ensures c.in_ok-move_results.ensures))

-- all were
pub returns : goal.returns
returns c =
    let all = results_from 0 c.args.table in
    let none : c.queries.table ≡ [] = nothing_left c.queries.table (λ some. (let wrong = c.in_default.ensures.found.1 some in cc)) in
    c.put_results_in_order.ensures
    ∙ in_order_moved c.args.table c.queries.results (subst (λ (table : List (List DerivedTuple)). IsPermutation all (results_from 0 table ++ c.queries.results)) none c.queries.invariant)
