use Rattle.std.proofs.Common.{◌∙◌, ◌∷◌, ◌++◌, ◌+◌, [], List, ℕ, length, sym, ap, subst}
use Rattle.work_order.specs.declared.turns.Turn.{Turn}
use Rattle.work_order.specs.Turns.{AreTurns, numbers_by}
use Rattle.work_order.proofs.OrderLemmas.{numbers_more, turns_more}
use Rattle.work_order.proofs.order.WorkOrder.add.Goals as goal

-- the new turn is above all
pub invariant_of-self-2 : goal.invariant_of-self-2
invariant_of-self-2 c =
    subst (λ (s : List Turn × List Turn). AreTurns s.0 s.1 (c.self.inside.next + 1)) (λ i. (sym c.in_ok-add_turn.ensures.ok.places i, sym c.in_ok-add_turn.ensures.ok.numbers i))
    (turns_more c.self.inside.by_place c.self.inside.by_number c.self.inside.next c.self.invariant)

-- and so is the new number
pub returns-clause-ok : goal.returns-clause-ok
returns-clause-ok c =
    (λ i. numbers_by (c.in_ok-add_turn.ensures.ok.places i) (c.in_ok-add_turn.ensures.ok.numbers i)) ∙ numbers_more c.self.inside.by_place c.self.inside.by_number c.self.inside.next c.self.invariant
    ∙ ap (λ (ns : List ℕ). ns ++ length ns ∷ []) c.self.view_is
