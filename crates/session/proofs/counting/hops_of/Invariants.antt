use Rattle.std.proofs.Common.{◌≡◌, ◌-◌, ◌^◌, length, min, take}
use Rattle.std.specs.Prelude.{sum_by}
use Rattle.session.proofs.counting.hops_of.Given as goal

-- the hops of the lines so far
abbrev pub invariant-loop-place : goal.invariant-loop-place
invariant-loop-place l = l.count ≡ min (sum_by (λ line. length line.hops) (take l.place l.lines)) (2 ^ 64 - 1)
