use Rattle.std.proofs.Common.{arith}
use Rattle.event_types.specs.Order.{tuple_cmp}
use Rattle.event_types.specs.OrderLaws.{tuple_exact, tuple_total}
use Rattle.event_types.proofs.SortLemmas.{sorted_few, sorted_is}
use Rattle.event_types.proofs.tuple.put_in_order.Goals as goal

pub returns-then-len-gt1 : goal.returns-then-len-gt1
returns-then-len-gt1 c = sorted_is tuple_cmp tuple_total tuple_exact _ _ c.sort.ensures.permutation c.sort.ensures.sorted

pub returns-else-len-gt1 : goal.returns-else-len-gt1
returns-else-len-gt1 c = sorted_few tuple_cmp c.args.tuples.now (let counted = c.len.ensures in let few = c.if-len-gt1.false in omega (arith, counted, few))
