use Rattle.std.proofs.Common.{◌≡◌, ◌-◌, true, length, take}
use Rattle.static_index.specs.FixedParts.{all_hold, fixed_parts}
use Rattle.static_index.proofs.condition.fixed_hold.Given as goal

abbrev pub invariant-loop-place : goal.invariant-loop-place
invariant-loop-place l = all_hold l.event (fixed_parts (take l.place l.condition)) ≡ true

abbrev pub decreases-loop-place : goal.decreases-loop-place
decreases-loop-place l = length l.condition - l.place
