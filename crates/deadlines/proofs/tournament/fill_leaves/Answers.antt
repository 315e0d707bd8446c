use Rattle.std.proofs.Common.{arith}
use Rattle.deadlines.proofs.TournamentLemmas.{fill_next}
use Rattle.deadlines.proofs.tournament.fill_leaves.Goals as goal

-- one leaf more
pub loop-leaf-preserved : goal.loop-leaf-preserved
loop-leaf-preserved c =
    fill_next c.args.from c.loop-leaf.leaf c.args.number c.args.nodes.now c.loop-leaf.nodes c.set_leaf.new.nodes c.loop-leaf.auto.leaf (omega (arith, c.loop-leaf-test.true, c.requires.to)) c.loop-leaf.invariant c.set_leaf.ensures.tournament
    c.set_leaf.ensures.leaves
