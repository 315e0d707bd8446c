use Rattle.std.proofs.Common.{◌-◌}
use Rattle.deadlines.proofs.TournamentLemmas.{LeadsTo}
use Rattle.deadlines.proofs.tournament.first_leaf.Given as goal

abbrev pub invariant-loop-node : goal.invariant-loop-node
invariant-loop-node l = LeadsTo l.nodes l.most l.node

abbrev pub decreases-loop-node : goal.decreases-loop-node
decreases-loop-node l = l.first - l.node
