use Rattle.std.proofs.Common.{◌≡◌, ◌+◌, ◌-◌, ℕ, [], length, get_or}
use Rattle.stream_readers.proofs.key_readers.widen.Given as goal

-- what was put at the end changes nothing
abbrev pub invariant-loop-alloc : goal.invariant-loop-alloc
invariant-loop-alloc l = (place : ℕ) → get_or l.directories place [] ≡ get_or l.initial.directories place []

abbrev pub decreases-loop-alloc : goal.decreases-loop-alloc
decreases-loop-alloc l = l.attribute + 1 - length l.directories
