use Rattle.std.proofs.Common.{◌≡◌, take, map}
use Rattle.cel_grammar.specs.Views.{statement_of}
use Rattle.catalogue.specs.First.{HaveNone}
use Rattle.catalogue.specs.Naming.{read_fault_at}
use Rattle.catalogue.specs.Reading.{numbers_of}
use Rattle.catalogue.specs.Statements.{queries_in, query_names, reads_by}
use Rattle.catalogue.proofs.reading.read_all.Given as goal

-- what the queries so far read was added, and none of the names has a fault
abbrev pub invariant-loop-place : goal.invariant-loop-place
invariant-loop-place l = record {
  reads : l.reads ≡ map (λ query. numbers_of (query_names (map statement_of l.file.statements)) (reads_by query)) (queries_in (take l.place (map statement_of l.file.statements)));
  none : HaveNone (read_fault_at (map statement_of l.file.statements)) l.place;
}
