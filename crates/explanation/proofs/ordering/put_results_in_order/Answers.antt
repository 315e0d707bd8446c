use Rattle.std.proofs.Common.{arith}
use Rattle.event_types.proofs.SortLemmas.{sorted_few, sorted_is}
use Rattle.explanation.specs.Explained.{explained_cmp}
use Rattle.explanation.specs.ExplainedLaws.{explained_total}
use Rattle.explanation.proofs.ResultLemmas.{explained_exact}
use Rattle.explanation.proofs.ordering.put_results_in_order.Goals as goal

pub returns-then-len-gt1 : goal.returns-then-len-gt1
returns-then-len-gt1 c = sorted_is explained_cmp explained_total explained_exact _ _ c.sort.ensures.permutation c.sort.ensures.sorted

pub returns-else-len-gt1 : goal.returns-else-len-gt1
returns-else-len-gt1 c = sorted_few explained_cmp c.args.results.now (let counted = c.len.ensures in let few = c.if-len-gt1.false in omega (arith, counted, few))
