use Rattle.std.proofs.Common.{◌≡◌, ◌<◌, ◌∙◌, List, ℕ, length, map, sym, ap, subst}
use Rattle.std.specs.Prelude.{◌==◌}
use Rattle.std.specs.List.{position_or_len, remove}
use Rattle.work_order.specs.declared.turns.Turn.{Turn}
use Rattle.work_order.specs.Numbers.{moved_down}
use Rattle.work_order.specs.Turns.{AreTurns, numbers_by}
use Rattle.work_order.proofs.OrderLemmas.{numbers_left, turns_left}
use Rattle.work_order.proofs.order.WorkOrder.leave.Goals as goal

pub invariant_of-self : goal.invariant_of-self
invariant_of-self c =
    let there : c.args.number < length (numbers_by c.self.inside.by_place c.self.inside.by_number) = subst (λ (ns : List ℕ). c.args.number < length ns) (sym c.self.view_is) c.requires in
    let place_is : c.place_of-place.result ≡ position_or_len (λ other. c.args.number == other) (numbers_by c.self.inside.by_place c.self.inside.by_number) =
    c.place_of-place.ensures.value ∙ ap (λ (ns : List ℕ). position_or_len (λ other. c.args.number == other) ns) (sym c.self.view_is) in
    subst (λ (s : List Turn × List Turn). AreTurns s.0 s.1 c.self.inside.next) (λ i. (sym c.remove.ensures.others i, sym c.remove-2.ensures.others i))
    (turns_left c.self.inside.by_place c.self.inside.by_number c.self.inside.next c.self.invariant c.args.number c.place_of-place.result there place_is)

pub returns : goal.returns
returns c =
    let there : c.args.number < length (numbers_by c.self.inside.by_place c.self.inside.by_number) = subst (λ (ns : List ℕ). c.args.number < length ns) (sym c.self.view_is) c.requires in
    let place_is : c.place_of-place.result ≡ position_or_len (λ other. c.args.number == other) (numbers_by c.self.inside.by_place c.self.inside.by_number) =
    c.place_of-place.ensures.value ∙ ap (λ (ns : List ℕ). position_or_len (λ other. c.args.number == other) ns) (sym c.self.view_is) in
    (λ i. numbers_by (c.remove.ensures.others i) (c.remove-2.ensures.others i))
    ∙ numbers_left c.self.inside.by_place c.self.inside.by_number c.self.inside.next c.self.invariant c.args.number c.place_of-place.result there place_is
    ∙ (λ i. map (moved_down c.args.number) (remove (c.self.view_is i) (c.place_of-place.ensures.value i)))
