use Rattle.std.proofs.Common.{◌≡◌, ◌+◌, ◌-◌, ℕ, [], length, get_or}
use Rattle.stream_readers.proofs.key_readers.lengthen.Given as goal

-- what was put at the end changes nothing
abbrev pub invariant-loop-alloc : goal.invariant-loop-alloc
invariant-loop-alloc l = (place : ℕ) → get_or l.streams place [] ≡ get_or l.initial.streams place []

abbrev pub decreases-loop-alloc : goal.decreases-loop-alloc
decreases-loop-alloc l = l.stream + 1 - length l.streams
