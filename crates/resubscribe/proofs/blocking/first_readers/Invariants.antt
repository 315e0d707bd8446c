use Rattle.resubscribe.specs.Readers.{AreBefore}
use Rattle.resubscribe.proofs.blocking.first_readers.Given as goal

-- the readers so far were looked at
abbrev pub invariant-loop-reader : goal.invariant-loop-reader
invariant-loop-reader l = AreBefore l.firsts.items l.reads l.reader
