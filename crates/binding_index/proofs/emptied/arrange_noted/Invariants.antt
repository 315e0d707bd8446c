use Rattle.std.proofs.Common.{◌≤◌, length}
use Rattle.binding_index.specs.Buckets.{AreSame, AreStarts, IsSplitAside}
use Rattle.binding_index.proofs.emptied.arrange_noted.Given as goal

abbrev pub invariant-loop-place : goal.invariant-loop-place
invariant-loop-place l = AreSame l.initial.buckets.entries l.buckets.entries × (l.filled ≤ length l.buckets.entries) × (length l.buckets.entries ≤ length l.starts) × IsSplitAside l.emptied l.filled l.buckets.entries
    × AreStarts l.starts l.buckets.entries

abbrev pub decreases-loop-place : goal.decreases-loop-place
decreases-loop-place l = length l.emptied
