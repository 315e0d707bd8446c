use Rattle.std.proofs.Common.{◌≡◌, ◌+◌, ◌-◌, length, take, drop}
use Rattle.std.specs.Prelude.{sum_by}
use Rattle.catalogue.proofs.growing.size_between.Given as goal

-- the lines so far were counted
abbrev pub invariant-loop-place : goal.invariant-loop-place
invariant-loop-place l = l.size ≡ sum_by (λ line. 1 + length line.hops) (take (l.place - l.fn.first) (drop l.fn.first l.lines))
