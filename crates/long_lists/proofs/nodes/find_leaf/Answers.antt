use Rattle.long_lists.proofs.SumTreeLemmas.{find_begins, find_left, find_right, leaf_found}
use Rattle.long_lists.proofs.nodes.find_leaf.Goals as goal

pub loop-node-init : goal.loop-node-init
loop-node-init c = find_begins c.args.nodes.now c.args.unit c.requires.tree c.requires.is_there

pub loop-node-preserved-then-nodes-node : goal.loop-node-preserved-then-nodes-node
loop-node-preserved-then-nodes-node c = find_right c.args.nodes.now c.args.unit c.loop-node.offset c.loop-node.node c.requires.tree c.loop-node.invariant c.loop-node-test.true c.if-nodes-node.true

pub loop-node-preserved : goal.loop-node-preserved
loop-node-preserved c = find_left c.args.nodes.now c.args.unit c.loop-node.offset c.loop-node.node c.requires.tree c.loop-node.invariant c.loop-node-test.true c.if-nodes-node.false

pub returns : goal.returns
returns c = leaf_found c.args.nodes.now c.args.unit c.loop-node.offset c.loop-node.node c.loop-node.invariant c.loop-node-test.false
