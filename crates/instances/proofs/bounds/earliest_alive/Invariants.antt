use Rattle.std.proofs.Common.{◌≡◌, ◌+◌, ◌-◌, ℕ, length, nat_le, take}
use Rattle.std.specs.List.{list_all}
use Rattle.instances.specs.Alive.{meets_bound}
use Rattle.scalar_expr.specs.Classes.{class_of}
use Rattle.instances.specs.Bounds.{started}
use Rattle.instances.proofs.bounds.earliest_alive.Given as goal

abbrev pub invariant-loop-place : goal.invariant-loop-place
invariant-loop-place l = (from : ℕ) → list_all (λ part. meets_bound (l.now + 1) (started from) (class_of part)) (take l.place l.condition) ≡ nat_le l.earliest from

abbrev pub decreases-loop-place : goal.decreases-loop-place
decreases-loop-place l = length l.condition - l.place
