use Rattle.deadlines.proofs.TournamentLemmas.{from_root, leaf_first, leaf_within, to_left, to_right}
use Rattle.deadlines.proofs.tournament.first_leaf.Goals as goal

pub loop-node-init : goal.loop-node-init
loop-node-init c = from_root c.args.nodes.now c.args.most c.requires.tournament c.requires.is_there

pub loop-node-preserved-then-most-nodes : goal.loop-node-preserved-then-most-nodes
loop-node-preserved-then-most-nodes c = to_right c.args.nodes.now c.args.most c.loop-node.node c.requires.tournament c.loop-node-test.true c.loop-node.invariant c.if-most-nodes.true

pub loop-node-preserved : goal.loop-node-preserved
loop-node-preserved c = to_left c.args.nodes.now c.args.most c.loop-node.node c.requires.tournament c.loop-node-test.true c.loop-node.invariant c.if-most-nodes.false

pub returns-clause-within : goal.returns-clause-within
returns-clause-within c = leaf_within c.args.nodes.now c.args.most c.loop-node.node c.loop-node-test.false c.loop-node.invariant

pub returns-clause-before : goal.returns-clause-before
returns-clause-before c = leaf_first c.args.nodes.now c.args.most c.loop-node.node c.loop-node-test.false c.loop-node.invariant
