use Rattle.std.proofs.Common.{◌≡◌, ◌-◌, ◌^◌, flat_map, length, min, take}
use Rattle.binding_index.proofs.buckets.count_all.Given as goal

abbrev pub invariant-loop-place : goal.invariant-loop-place
invariant-loop-place l = l.count ≡ min (length (flat_map (λ b. b.1) (take l.place l.buckets.entries))) (2 ^ 64 - 1)
