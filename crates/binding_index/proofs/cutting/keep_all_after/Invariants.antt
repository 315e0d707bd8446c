use Rattle.std.proofs.Common.{◌≤◌, Some, length}
use Rattle.semantics.specs.Births.{is_after}
use Rattle.binding_index.specs.Buckets.{AreStarts, IsSplit, KeepsAlive, PassFrom}
use Rattle.binding_index.proofs.cutting.keep_all_after.Given as goal

abbrev pub invariant-loop-place : goal.invariant-loop-place
invariant-loop-place l = (l.place ≤ l.filled) × (l.filled ≤ length l.buckets.entries) × (length l.buckets.entries ≤ length l.starts) × IsSplit l.filled l.buckets.entries × AreStarts l.starts l.buckets.entries
    × KeepsAlive (λ instance. is_after (Some l.birth) instance.first) l.initial.buckets.entries l.buckets.entries
    × PassFrom (λ instance. is_after (Some l.birth) instance.first) l.place l.buckets.entries

abbrev pub decreases-loop-place : goal.decreases-loop-place
decreases-loop-place l = l.place
