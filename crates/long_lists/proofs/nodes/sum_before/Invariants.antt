use Rattle.std.proofs.Common.{◌-◌}
use Rattle.long_lists.proofs.SumTreeLemmas.{SumsTo}
use Rattle.long_lists.proofs.nodes.sum_before.Given as goal

abbrev pub invariant-loop-node : goal.invariant-loop-node
invariant-loop-node l = SumsTo l.nodes l.leaf l.rest l.span l.node l.before

abbrev pub decreases-loop-node : goal.decreases-loop-node
decreases-loop-node l = l.first - l.node
