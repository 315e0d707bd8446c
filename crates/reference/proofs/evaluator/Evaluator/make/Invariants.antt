use Rattle.reference.specs.Hearing.{HasHeard}
use Rattle.std.proofs.Common.{[]}
use Rattle.reference.proofs.evaluator.Evaluator.make.Given as goal

-- so many empty lists were put
abbrev pub invariant-loop : goal.invariant-loop
invariant-loop l = HasHeard l.counter [] l.lists
