use Rattle.std.proofs.Common.{arith}
use Rattle.event_types.proofs.SortLemmas.{sorted_few, sorted_is}
use Rattle.derivations.specs.DerivationOrder.{derived_cmp}
use Rattle.derivations.specs.DerivationOrderLaws.{derived_exact, derived_total}
use Rattle.derivations.proofs.ordering.put_derived_in_order.Goals as goal

pub returns-then-len-gt1 : goal.returns-then-len-gt1
returns-then-len-gt1 c = sorted_is derived_cmp derived_total derived_exact _ _ c.sort.ensures.permutation c.sort.ensures.sorted

pub returns-else-len-gt1 : goal.returns-else-len-gt1
returns-else-len-gt1 c = sorted_few derived_cmp c.args.found.now (let counted = c.len.ensures in let few = c.if-len-gt1.false in omega (arith, counted, few))
