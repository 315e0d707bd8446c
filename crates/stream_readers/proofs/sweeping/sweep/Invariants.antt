use Rattle.std.proofs.Common.{[]}
use Rattle.stream_readers.specs.Sweeping.{IsSwept}
use Rattle.stream_readers.proofs.KeyTableLemmas.{ChangedBelow}
use Rattle.stream_readers.proofs.sweeping.sweep.Given as goal

-- the directories so far are swept
abbrev pub invariant-loop-attribute : goal.invariant-loop-attribute
invariant-loop-attribute l = ChangedBelow (IsSwept l.stores) [] l.attribute l.initial.directories l.directories
