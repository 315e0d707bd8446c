use Rattle.std.proofs.Common.{◌≡◌, ◌∙◌, ◌++◌, ◌∷◌, [], map, cond, ap, rules}
use Rattle.std.specs.Prelude.{None}
use Rattle.cel_grammar.specs.Views.{statement_of}
use Rattle.stream_schema.specs.Streams.{stream_names}
use Rattle.catalogue.specs.Naming.{read_fault_at}
use Rattle.catalogue.specs.Reading.{numbers_of}
use Rattle.catalogue.specs.Statements.{is_query, reads_by}
use Rattle.catalogue.proofs.PlaceLemmas.{HaveNone-more, read_fault-at, slice_get-map}
use Rattle.catalogue.proofs.ReadsLemmas.{reads-with}
use Rattle.catalogue.proofs.reading.read_all.Goals as goal

-- the statement is the first that reads a name of none
pub returns-in-Some-clause-err : goal.returns-in-Some-clause-err
returns-in-Some-clause-err c =
    let there = slice_get-map statement_of c.args.file.now.statements c.loop-place.place c.statement.result.now c.statement.ensures in
    record {
      place = c.loop-place.place;
      on_line = c.line.ensures;
      has = read_fault-at (map statement_of c.args.file.now.statements) c.loop-place.place (statement_of c.statement.result.now) there (stream_names c.args.named.now.all) c.in_ok-why.field-0 c.requires.all c.in_ok-why.ensures.fault ∙ c.in-Some.is;
      none_before = c.loop-place.invariant.none;
    }

-- what one more statement reads was added
pub loop-place-preserved : goal.loop-place-preserved
loop-place-preserved c =
    let there = slice_get-map statement_of c.args.file.now.statements c.loop-place.place c.statement.result.now c.statement.ensures in
    let none : c.in_ok-why.field-0 ≡ None = search rules in
    record {
      reads = c.in_ok-why.ensures.reads none
          ∙ ap (λ xs. xs ++ cond (is_query (statement_of c.statement.result.now)) (numbers_of (stream_names c.args.named.now.queries) (reads_by (statement_of c.statement.result.now)) ∷ []) []) c.loop-place.invariant.reads
          ∙ reads-with (map statement_of c.args.file.now.statements) c.loop-place.place (statement_of c.statement.result.now) (stream_names c.args.named.now.queries) there c.requires.queries;
      none = HaveNone-more (read_fault_at (map statement_of c.args.file.now.statements)) c.loop-place.place c.loop-place.invariant.none
          (read_fault-at (map statement_of c.args.file.now.statements) c.loop-place.place (statement_of c.statement.result.now) there (stream_names c.args.named.now.all) c.in_ok-why.field-0 c.requires.all c.in_ok-why.ensures.fault ∙ none);
    }
