use Rattle.std.proofs.Common.{◌≡◌, ◌∙◌, ◌++◌, ℕ, List, add-one, ap, subst, sym}
use Rattle.std.specs.Prelude.{Some, slice_get}
use Rattle.catalogue.specs.Holding.{judged_in}
use Rattle.plan_text.specs.Plan.{plan_line_at}
use Rattle.plan_text.proofs.ListedLemmas.{flat_map-take}
use Rattle.plan_text.proofs.PlanLemmas.{order-within}
use Rattle.plan_text.proofs.planning.plan.Goals as goal

-- the number is a query's
pub append_query-requires-clause-within : goal.append_query-requires-clause-within
append_query-requires-clause-within c =
    let there = subst (λ (order : List ℕ). slice_get order c.loop-place.place ≡ Some c.get.result) c.order-order.ensures.value c.get.ensures.value in
    order-within c.args.catalogue.now c.order-order.ensures.stands c.loop-place.place c.get.result there

-- the line of one more query was put behind the text
pub loop-place-preserved : goal.loop-place-preserved
loop-place-preserved c =
    let judged = judged_in c.args.catalogue.now in
    let there = subst (λ (order : List ℕ). slice_get order c.loop-place.place ≡ Some c.get.result) c.order-order.ensures.value c.get.ensures.value in
    let more = flat_map-take (plan_line_at judged) judged.order c.loop-place.place c.get.result there in
    c.in_ok-append_query.ensures
    ∙ ap (λ (bytes : List ℕ). bytes ++ plan_line_at judged c.get.result) c.loop-place.invariant
    ∙ rw add-one (sym more)
