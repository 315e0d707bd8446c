use Rattle.std.proofs.Common.{◌≡◌, ◌-◌, drop, length}
use Rattle.binding_index.specs.KeyParts.{first_key as first_key_of}
use Rattle.binding_index.proofs.key.first_key.Given as goal

abbrev pub invariant-loop-place : goal.invariant-loop-place
invariant-loop-place l = first_key_of (drop l.place l.condition) ≡ first_key_of l.condition

abbrev pub decreases-loop-place : goal.decreases-loop-place
decreases-loop-place l = length l.condition - l.place
