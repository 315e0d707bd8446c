use Rattle.std.proofs.Common.{◌-◌}
use Rattle.long_lists.proofs.SumTreeLemmas.{FindsIn}
use Rattle.long_lists.proofs.nodes.find_leaf.Given as goal

abbrev pub invariant-loop-node : goal.invariant-loop-node
invariant-loop-node l = FindsIn l.nodes l.unit l.offset l.node

abbrev pub decreases-loop-node : goal.decreases-loop-node
decreases-loop-node l = l.first - l.node
