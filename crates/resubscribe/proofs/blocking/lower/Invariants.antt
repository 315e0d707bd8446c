use Rattle.std.proofs.Common.{take}
use Rattle.resubscribe.specs.Readers.{Lowers}
use Rattle.resubscribe.proofs.blocking.lower.Given as goal

-- the queries so far were lowered
abbrev pub invariant-loop-read : goal.invariant-loop-read
invariant-loop-read l = Lowers l.initial.firsts l.firsts (take l.read-index l.reads) l.reader
