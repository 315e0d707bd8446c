use Rattle.std.proofs.Common.{◌-◌, ◌≤◌, length, take}
use Rattle.automaton.specs.Networks.{IsAt}
use Rattle.automaton.specs.Prefixes.{Root, extended}
use Rattle.prefix_merge.proofs.growth.reach.Given as goal

-- the hops so far lead to the state
abbrev pub invariant-loop-place : goal.invariant-loop-place
invariant-loop-place l = (l.place ≤ length l.line.hops) × IsAt l.network l.state (extended (Root l.line.root) (take l.place l.line.hops))

abbrev pub decreases-loop-place : goal.decreases-loop-place
decreases-loop-place l = length l.line.hops - l.place
