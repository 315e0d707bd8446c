use Rattle.std.proofs.Common.{◌≡◌, ◌∙◌, List, ℕ, length, sym, ap, subst}
use Rattle.work_order.specs.declared.turns.Turn.{Turn}
use Rattle.work_order.specs.Turns.{AreTurns, first_turns, numbers_by}
use Rattle.work_order.proofs.OrderLemmas.{first_are, first_numbers}
use Rattle.work_order.proofs.order.WorkOrder.of.Goals as goal

pub invariant_of-result : goal.invariant_of-result
invariant_of-result c =
    let numbers : List ℕ = c.args.numbers.now in
    let by_number : c.in_ok-by_number.by_number ≡ first_turns c.in_ok-places.places (length numbers) = c.in_ok-by_number.ensures ∙ ap (first_turns c.in_ok-places.places) c.in_ok-places.ensures.long in
    subst (λ (s : List Turn × List Turn × ℕ). AreTurns s.0 s.1 s.2) (λ i. (sym c.in_ok-by_place.ensures i, sym by_number i, sym c.len.ensures i)) (first_are numbers c.in_ok-places.places c.requires c.in_ok-places.ensures)

pub returns : goal.returns
returns c =
    let numbers : List ℕ = c.args.numbers.now in
    let by_number : c.in_ok-by_number.by_number ≡ first_turns c.in_ok-places.places (length numbers) = c.in_ok-by_number.ensures ∙ ap (first_turns c.in_ok-places.places) c.in_ok-places.ensures.long in
    (λ i. numbers_by (c.in_ok-by_place.ensures i) (by_number i)) ∙ first_numbers numbers c.in_ok-places.places c.requires c.in_ok-places.ensures
