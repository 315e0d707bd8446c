use Rattle.std.proofs.Common.{◌≡◌, ◌<◌, ◌≤◌, ℕ, false, get_or}
use Rattle.binding_index.specs.Buckets.{Bucket}
use Rattle.binding_index.specs.Entries.{is_filled}
use Rattle.binding_index.proofs.emptied.last_filled.Given as goal

abbrev pub invariant-loop-filled : goal.invariant-loop-filled
invariant-loop-filled l = (l.filled ≤ l.initial.filled) × ((number : ℕ) (d : Bucket) → l.filled ≤ number → number < l.initial.filled → is_filled (get_or l.buckets.entries number d) ≡ false)

abbrev pub decreases-loop-filled : goal.decreases-loop-filled
decreases-loop-filled l = l.filled
