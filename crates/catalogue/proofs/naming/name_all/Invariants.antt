use Rattle.std.proofs.Common.{◌≡◌, take, map}
use Rattle.cel_grammar.specs.Views.{statement_of}
use Rattle.stream_schema.specs.Streams.{AreThere, stream_names}
use Rattle.catalogue.specs.First.{HaveNone}
use Rattle.catalogue.specs.Naming.{name_fault_at}
use Rattle.catalogue.specs.Statements.{names_in, query_names}
use Rattle.catalogue.proofs.naming.name_all.Given as goal

-- the statements so far are in the tables, and none of their names has a fault
abbrev pub invariant-loop-place : goal.invariant-loop-place
invariant-loop-place l = record {
  all : stream_names l.named.all ≡ take l.place (names_in (map statement_of l.file.statements));
  queries : stream_names l.named.queries ≡ query_names (take l.place (map statement_of l.file.statements));
  none : HaveNone (name_fault_at (map statement_of l.file.statements)) l.place;
  there : AreThere l.named.queries;
}
