use Rattle.std.proofs.Common.{arith}
use Rattle.cel_parser.specs.OneQuery.{declared, followed, query}
use Rattle.cel_parser.proofs.one_query.fault_of_first.Goals as goal

pub returns-in-Stream-clause-some : goal.returns-in-Stream-clause-some
returns-in-Stream-clause-some c _ = rw c.in-Stream.is declared

pub returns-in-Query-clause-some : goal.returns-in-Query-clause-some
returns-in-Query-clause-some c other = rw c.in-Query.is (followed query (c.fault_of_second.ensures other))

pub returns-in-Query-2-clause-none : goal.returns-in-Query-2-clause-none
returns-in-Query-2-clause-none c _ = rw c.in-Query-2.is (query, omega (arith, c.size.ensures.value, c.if-next-size.false))
