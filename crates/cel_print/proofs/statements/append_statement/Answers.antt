use Rattle.std.proofs.Common.{arith, map}
use Rattle.std.proofs.lemmas.Grind.{common_steps}
use Rattle.cel_grammar.specs.Views.{column_of, item_of, source_of}
use Rattle.cel_print.proofs.TextStatements.{stream_line, query_line}
use Rattle.cel_print.proofs.statements.append_statement.Goals as goal

pub returns-in_ok-append_attrs-in-Stream : goal.returns-in_ok-append_attrs-in-Stream
returns-in_ok-append_attrs-in-Stream c = grind (arith, common_steps, stream_line c.in-Stream.name (map column_of c.in-Stream.attrs))

pub returns-in_ok-append-in-Query-4 : goal.returns-in_ok-append-in-Query-4
returns-in_ok-append-in-Query-4 c = grind (arith, common_steps, query_line (map item_of c.in-Query.items) (source_of c.in-Query.source) c.in-Query.name)
