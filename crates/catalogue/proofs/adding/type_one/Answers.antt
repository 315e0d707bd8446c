use Rattle.std.proofs.Common.{refl}
use Rattle.stream_schema.specs.Streams.{stream_names}
use Rattle.cel_grammar.specs.Views.{statement_of}
use Rattle.catalogue.specs.Adding as adding
use Rattle.catalogue.specs.Statements.{name_of}
use Rattle.catalogue.proofs.JudgeLemmas.{query_over, refused_in_types}
use Rattle.catalogue.proofs.NameLemmas.{number_of-absent}
use Rattle.catalogue.proofs.NamingLemmas.{new-name}
use Rattle.catalogue.proofs.adding.type_one.Goals as goal

-- it reads none but names of streams
pub elaborate-requires : goal.elaborate-requires
elaborate-requires c = query_over c.args.streams.now (statement_of c.args.statement) c.requires c.in_ok-check_names.ensures.read

-- it is taken
pub returns-in-Ok-clause-ok : goal.returns-in-Ok-clause-ok
returns-in-Ok-clause-ok c = adding.taken c.in_ok-check_names.ensures.new c.in_ok-check_names.ensures.read c.in-Ok.ensures.ok

-- and may be added
pub returns-in-Ok-clause-fit : goal.returns-in-Ok-clause-fit
returns-in-Ok-clause-fit c few = record {
  typed = c.in-Ok.ensures.ok;
  new = number_of-absent (name_of (statement_of c.args.statement)) c.args.streams.now (stream_names c.args.streams.now) refl
      (new-name (stream_names c.args.streams.now) (name_of (statement_of c.args.statement)) c.in_ok-check_names.ensures.new);
  own = c.in_ok-check_names.ensures.own;
  known = c.in_ok-check_names.ensures.known;
  few = few c.in-Ok.ensures.ok;
}

-- its types have a fault
pub returns-in-Err-clause-err : goal.returns-in-Err-clause-err
returns-in-Err-clause-err c =
    refused_in_types c.args.streams.now (statement_of c.args.statement) c.args.line c.in-Err.fault c.of_types.result c.in_ok-check_names.ensures.new c.in_ok-check_names.ensures.read c.in-Err.ensures.err c.of_types.ensures
