use Rattle.std.proofs.Common.{◌≡◌, flat_map, take}
use Rattle.binding_index.proofs.buckets.copy_all.Given as goal

abbrev pub invariant-loop-place : goal.invariant-loop-place
invariant-loop-place l = l.copies ≡ flat_map (λ b. b.1) (take l.place l.buckets.entries)
