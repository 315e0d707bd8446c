use Rattle.std.proofs.Common.{◌++◌, map, subst, sym, List}
use Rattle.std.specs.List.Sorted.{IsPermutation}
use Rattle.std.proofs.lemmas.List.Sorted.{IsPermutation-refl, IsPermutation-trans}
use Rattle.derivations.specs.DerivedTuples.{DerivedTuple}
use Rattle.explanation.specs.Explained.{result_of}
use Rattle.explanation.specs.declared.results.Explained.{Explained}
use Rattle.explanation.proofs.ResultLemmas.{one_moved}
use Rattle.explanation.proofs.results.move_results.Goals as goal

-- nothing was moved yet
pub tuples-init : goal.tuples-init
tuples-init c = IsPermutation-refl _

-- one more was
pub tuples-preserved : goal.tuples-preserved
tuples-preserved c =
    let all = map (result_of c.args.query) c.args.found ++ c.args.results.now in
    let left = c.pop.new.self in
    let before = subst (λ (found : List DerivedTuple). IsPermutation all (map (result_of c.args.query) found ++ c.tuples.results)) c.in-Some.ensures.items c.tuples.invariant in
    subst (λ (results : List Explained). IsPermutation all (map (result_of c.args.query) left ++ results)) (sym c.in_ok-add.ensures.ok) (IsPermutation-trans _ _ _ before (one_moved c.args.query left c.in-Some.derived c.tuples.results))
