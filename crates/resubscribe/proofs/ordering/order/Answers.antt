use Rattle.std.proofs.Common.{sym, subst}
use Rattle.resubscribe.specs.Laws.{HasEachOnce, StandsAfterReads}
use Rattle.resubscribe.specs.Order.{IsOrder}
use Rattle.resubscribe.proofs.CycleLemmas.{ReadsInCircle-cycle}
use Rattle.resubscribe.proofs.OrderLemmas.{HasEachOnce-order, StandsAfterReads-order}
use Rattle.resubscribe.proofs.ordering.order.Goals as goal

-- an order has each query once
pub returns-in-None-clause-each_once : goal.returns-in-None-clause-each_once
returns-in-None-clause-each_once c =
    let is_order : IsOrder c.args.reads.now c.in_ok-taken.taken.numbers = record { taken = c.in_ok-taken.ensures.takes; none_left = sym c.in-None.ensures } in
    subst (HasEachOnce c.args.reads.now) (sym c.into_numbers.ensures.value) (HasEachOnce-order c.args.reads.now c.in_ok-taken.taken.numbers is_order)

-- each stands after its reads
pub returns-in-None-clause-after_reads : goal.returns-in-None-clause-after_reads
returns-in-None-clause-after_reads c =
    let is_order : IsOrder c.args.reads.now c.in_ok-taken.taken.numbers = record { taken = c.in_ok-taken.ensures.takes; none_left = sym c.in-None.ensures } in
    subst (StandsAfterReads c.args.reads.now) (sym c.into_numbers.ensures.value) (StandsAfterReads-order c.args.reads.now c.in_ok-taken.taken.numbers is_order)

-- a cycle reads in a circle
pub returns-in_ok-cycle_of-in-Some-clause-cycle : goal.returns-in_ok-cycle_of-in-Some-clause-cycle
returns-in_ok-cycle_of-in-Some-clause-cycle c =
    (c.in_ok-cycle_of-in-Some.ensures, ReadsInCircle-cycle c.args.reads.now c.in_ok-cycle_of-in-Some.field-0 c.in_ok-cycle_of-in-Some.ensures)
