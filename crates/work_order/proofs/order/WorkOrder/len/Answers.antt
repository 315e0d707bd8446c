use Rattle.std.proofs.Common.{subst}
use Rattle.work_order.specs.Numbers.{AreNumbers}
use Rattle.work_order.proofs.OrderLemmas.{numbers}
use Rattle.work_order.proofs.order.WorkOrder.len.Goals as goal

pub returns-clause-numbers : goal.returns-clause-numbers
returns-clause-numbers c = subst AreNumbers c.self.view_is (numbers c.self.inside.by_place c.self.inside.by_number c.self.inside.next c.self.invariant)
