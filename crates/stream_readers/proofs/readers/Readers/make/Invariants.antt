use Rattle.stream_readers.specs.Making.{AreReadersBelow}
use Rattle.stream_readers.proofs.readers.Readers.make.Given as goal

-- the states so far are among the readers of their streams
abbrev pub invariant-loop-number : goal.invariant-loop-number
invariant-loop-number l = AreReadersBelow l.network l.number l.number l.streams
