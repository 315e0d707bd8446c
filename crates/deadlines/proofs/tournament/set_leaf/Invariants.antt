use Rattle.std.proofs.Common.{◌≡◌, ◌/◌, ◌<◌, drop, length, set}
use Rattle.deadlines.specs.Tournament.{AreLesserBut}
use Rattle.deadlines.proofs.tournament.set_leaf.Given as goal

-- the leaf is written, and the parent of the node alone may be wrong
abbrev pub invariant-loop-node : goal.invariant-loop-node
invariant-loop-node l = record {
  pos : 0 < l.node;
  within : l.node < length l.nodes;
  leaves : drop (length l.nodes / 2) l.nodes ≡ set (drop (length l.nodes / 2) l.fn.nodes) l.leaf l.number;
  lesser : AreLesserBut (l.node / 2) l.nodes;
}

abbrev pub decreases-loop-node : goal.decreases-loop-node
decreases-loop-node l = l.node
