use Rattle.std.proofs.Common.{◌+◌, ◌≤◌, length}
use Rattle.instances.specs.Alive.{is_alive}
use Rattle.binding_index.specs.Buckets.{AreStarts, IsSplit, KeepsAlive, passed}
use Rattle.binding_index.proofs.expiring.keep_all_alive.Given as goal

abbrev pub invariant-loop-place : goal.invariant-loop-place
invariant-loop-place l = (l.filled ≤ length l.buckets.entries) × (length l.buckets.entries ≤ length l.starts) × IsSplit l.filled l.buckets.entries × AreStarts l.starts l.buckets.entries
    × KeepsAlive (λ instance. is_alive (l.now + 1) l.condition instance.tuple) l.initial.buckets.entries l.buckets.entries

-- how many times have passed
abbrev pub decreases-loop-place : goal.decreases-loop-place
decreases-loop-place l = passed (l.now + 1) l.condition l.starts
