use Rattle.std.proofs.Common.{arith}
use Rattle.long_lists.proofs.SumTreeLemmas.{write_begins, write_ends, write_fits, write_on}
use Rattle.long_lists.proofs.nodes.set_leaf.Goals as goal

pub overflow_add-nodes-in-loop-node : goal.overflow_add-nodes-in-loop-node
overflow_add-nodes-in-loop-node c =
    let fits = write_fits c.args.nodes.now c.args.leaf c.args.number c.loop-node.node c.loop-node.nodes c.requires.tree c.requires.leaf c.loop-node.invariant c.loop-node-test.true in
    omega (arith, fits, c.requires.fits)

pub loop-node-init : goal.loop-node-init
loop-node-init c = write_begins c.args.nodes.now c.args.leaf c.args.number c.requires.tree c.requires.leaf

pub loop-node-preserved : goal.loop-node-preserved
loop-node-preserved c = write_on c.args.nodes.now c.args.leaf c.args.number c.loop-node.node c.loop-node.nodes c.requires.tree c.requires.leaf c.loop-node.invariant c.loop-node-test.true

pub returns : goal.returns
returns c = record { tree = write_ends c.args.nodes.now c.args.leaf c.args.number c.loop-node.node c.loop-node.nodes c.requires.tree c.loop-node.invariant c.loop-node-test.false; leaves = c.loop-node.invariant.leaves }
