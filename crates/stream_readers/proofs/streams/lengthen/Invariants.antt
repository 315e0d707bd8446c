use Rattle.std.proofs.Common.{◌≡◌, ◌+◌, ◌-◌, ℕ, length}
use Rattle.stream_readers.specs.Readers.{reader_at}
use Rattle.stream_readers.proofs.streams.lengthen.Given as goal

-- what was put at the end changes nothing
abbrev pub invariant-loop-alloc : goal.invariant-loop-alloc
invariant-loop-alloc l = (number : ℕ) → reader_at l.readers number ≡ reader_at l.initial.readers number

abbrev pub decreases-loop-alloc : goal.decreases-loop-alloc
decreases-loop-alloc l = l.stream + 1 - length l.readers
