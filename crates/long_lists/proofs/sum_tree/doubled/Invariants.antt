use Rattle.long_lists.proofs.SumTreeLemmas.{IsCopied}
use Rattle.long_lists.proofs.sum_tree.doubled.Given as goal

abbrev pub invariant-loop-leaf : goal.invariant-loop-leaf
invariant-loop-leaf l = IsCopied l.nodes l.count l.leaf l.grown.items
