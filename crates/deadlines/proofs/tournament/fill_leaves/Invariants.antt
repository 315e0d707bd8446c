use Rattle.deadlines.proofs.TournamentLemmas.{FilledTo}
use Rattle.deadlines.proofs.tournament.fill_leaves.Given as goal

-- the leaves so far are written
abbrev pub invariant-loop-leaf : goal.invariant-loop-leaf
invariant-loop-leaf l = FilledTo l.from l.leaf l.number l.initial.nodes l.nodes
