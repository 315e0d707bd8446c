use Rattle.std.proofs.Common.{◌≡◌, ◌+◌, length, take}
use Rattle.std.specs.Prelude.{sum_by}
use Rattle.catalogue.proofs.growing.size_of.Given as goal

-- the lines so far were counted
abbrev pub invariant-loop-line : goal.invariant-loop-line
invariant-loop-line l = l.size ≡ sum_by (λ line. 1 + length line.hops) (take l.line-index l.lines)
