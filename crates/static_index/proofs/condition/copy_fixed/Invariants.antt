use Rattle.std.proofs.Common.{◌≡◌, ◌-◌, length, take}
use Rattle.static_index.specs.FixedParts.{fixed_parts}
use Rattle.static_index.proofs.condition.copy_fixed.Given as goal

abbrev pub invariant-loop-place : goal.invariant-loop-place
invariant-loop-place l = l.parts ≡ fixed_parts (take l.place l.condition)

abbrev pub decreases-loop-place : goal.decreases-loop-place
decreases-loop-place l = length l.condition - l.place
