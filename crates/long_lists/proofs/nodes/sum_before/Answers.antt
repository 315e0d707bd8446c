use Rattle.std.proofs.Common.{arith}
use Rattle.long_lists.proofs.SumTreeLemmas.{sum_begins, sum_ends, sum_fits, sum_left, sum_right}
use Rattle.long_lists.proofs.nodes.sum_before.Goals as goal

pub loop-node-init : goal.loop-node-init
loop-node-init c = sum_begins c.args.nodes.now c.args.leaf c.requires.tree c.requires.leaf

pub overflow_add-before : goal.overflow_add-before
overflow_add-before c =
    let fits = sum_fits c.args.nodes.now c.args.leaf c.loop-node.rest c.loop-node.span c.loop-node.node c.loop-node.before c.requires.tree c.loop-node.invariant c.loop-node-test.true in
    omega (arith, fits, c.type_inv.nodes 1)

pub loop-node-preserved-then-span-rest : goal.loop-node-preserved-then-span-rest
loop-node-preserved-then-span-rest c = sum_right c.args.nodes.now c.args.leaf c.loop-node.rest c.loop-node.span c.loop-node.node c.loop-node.before c.requires.tree c.loop-node.invariant c.loop-node-test.true c.if-span-rest.true

pub loop-node-preserved : goal.loop-node-preserved
loop-node-preserved c = sum_left c.args.nodes.now c.args.leaf c.loop-node.rest c.loop-node.span c.loop-node.node c.loop-node.before c.requires.tree c.loop-node.invariant c.loop-node-test.true c.if-span-rest.false

pub returns : goal.returns
returns c = sum_ends c.args.nodes.now c.args.leaf c.loop-node.rest c.loop-node.span c.loop-node.node c.loop-node.before c.loop-node.invariant c.loop-node-test.false
