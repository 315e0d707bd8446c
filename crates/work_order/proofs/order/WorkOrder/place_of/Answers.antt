use Rattle.std.proofs.Common.{◌∙◌, List, ℕ, length, ap, arith}
use Rattle.std.specs.Prelude.{◌==◌}
use Rattle.std.specs.List.{position_or_len}
use Rattle.work_order.proofs.OrderLemmas.{many, place_found, place_read}
use Rattle.work_order.proofs.order.WorkOrder.place_of.Goals as goal

-- the query stands in the order of work, too
pub find-requires-clause-there : goal.find-requires-clause-there
find-requires-clause-there c = place_found c.self.inside.by_place c.self.inside.by_number c.self.inside.next c.self.invariant c.args.number c.get.result.now c.get.ensures

pub returns-clause-value : goal.returns-clause-value
returns-clause-value c =
    c.find.ensures ∙ place_read c.self.inside.by_place c.self.inside.by_number c.self.inside.next c.self.invariant c.args.number c.get.result.now c.get.ensures
    ∙ ap (λ (ns : List ℕ). position_or_len (λ other. c.args.number == other) ns) c.self.view_is

pub returns-clause-within : goal.returns-clause-within
returns-clause-within c =
    let found = place_found c.self.inside.by_place c.self.inside.by_number c.self.inside.next c.self.invariant c.args.number c.get.result.now c.get.ensures in
    let all = many c.self.inside.by_place c.self.inside.by_number c.self.inside.next c.self.invariant in
    omega (arith, found, all, c.find.ensures, ap length c.self.view_is)
