use Rattle.std.proofs.Common.{◌∙◌, List, ℕ, length, sym, ap, arith}
use Rattle.std.specs.Prelude.{Some, slice_get}
use Rattle.work_order.proofs.OrderLemmas.{many, number_found, number_read}
use Rattle.work_order.proofs.order.WorkOrder.get.Goals as goal

-- the query stands in the order of numbers, too
pub find-requires-clause-there : goal.find-requires-clause-there
find-requires-clause-there c = number_found c.self.inside.by_place c.self.inside.by_number c.self.inside.next c.self.invariant c.args.place c.get.result.now c.get.ensures

-- and its place there is its number
pub returns-clause-value : goal.returns-clause-value
returns-clause-value c =
    ap (λ (ns : List ℕ). slice_get ns c.args.place) (sym c.self.view_is) ∙ number_read c.self.inside.by_place c.self.inside.by_number c.self.inside.next c.self.invariant c.args.place c.get.result.now c.get.ensures
    ∙ ap Some (sym c.find.ensures)

pub returns-clause-within : goal.returns-clause-within
returns-clause-within c =
    let found = number_found c.self.inside.by_place c.self.inside.by_number c.self.inside.next c.self.invariant c.args.place c.get.result.now c.get.ensures in
    let all = many c.self.inside.by_place c.self.inside.by_number c.self.inside.next c.self.invariant in
    omega (arith, found, all, c.self.invariant.as_many, c.find.ensures, ap length c.self.view_is)
