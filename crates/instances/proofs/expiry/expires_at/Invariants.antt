use Rattle.std.proofs.Common.{◌≡◌, ◌-◌, ◌^◌, ◌<◌, ℕ, length, nat_lt, take}
use Rattle.std.specs.List.{list_all}
use Rattle.instances.specs.Alive.{meets_bound}
use Rattle.scalar_expr.specs.Classes.{class_of}
use Rattle.instances.specs.Bounds.{started}
use Rattle.instances.proofs.expiry.expires_at.Given as goal

abbrev pub invariant-loop-place : goal.invariant-loop-place
invariant-loop-place l = (time : ℕ) → time < 2 ^ 128 - 1 → list_all (λ part. meets_bound time (started l.from) (class_of part)) (take l.place l.condition) ≡ nat_lt time l.end

abbrev pub decreases-loop-place : goal.decreases-loop-place
decreases-loop-place l = length l.condition - l.place
