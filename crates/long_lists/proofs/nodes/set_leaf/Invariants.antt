use Rattle.long_lists.proofs.SumTreeLemmas.{IsWritten}
use Rattle.long_lists.proofs.nodes.set_leaf.Given as goal

abbrev pub invariant-loop-node : goal.invariant-loop-node
invariant-loop-node l = IsWritten l.fn.nodes l.leaf l.number l.node l.nodes

abbrev pub decreases-loop-node : goal.decreases-loop-node
decreases-loop-node l = l.node
