use Rattle.std.proofs.Common.{◌≡◌, ◌∙◌, ap, sym, subst, List}
use Rattle.std.specs.Prelude.{IfOk}
use Rattle.derivations.specs.DerivedTuples.{DerivedTuple, derived_earliest, derived_eligible}
use Rattle.derivations.proofs.EarliestLemmas.{earliest_none, nexts_by}
use Rattle.derivations.proofs.matching.nexts_of.Goals as goal

-- some tuple is eligible, and the nexts are those that are detected with the first one
pub returns-in-Some : goal.returns-in-Some
returns-in-Some g c =
    subst (λ (found : List DerivedTuple). IfOk c.eligible_by.result (λ nexts. nexts ≡ found))
    (nexts_by c.args.condition.now c.args.binding.now c.side_for-side.result.now c.in-Some.time (sym c.first_time.ensures ∙ c.in-Some.is) ∙ ap derived_earliest c.side_for-side.ensures.eligible) c.eligible_by.ensures

-- none is eligible
pub returns-in-None : goal.returns-in-None
returns-in-None g c =
    c.new.ensures ∙ sym (earliest_none (derived_eligible c.args.condition.now c.args.binding.now c.side_for-side.result.now) (sym c.first_time.ensures ∙ c.in-None.is)) ∙ ap derived_earliest c.side_for-side.ensures.eligible
