use Rattle.std.proofs.Common.{◌≡◌, ◌∙◌, ◌++◌, ◌∷◌, [], take, map, sym, ap, refl, rules, cond}
use Rattle.std.specs.Prelude.{None}
use Rattle.std.proofs.lemmas.List.{take-map}
use Rattle.cel_grammar.specs.Views.{statement_of}
use Rattle.cel_types.specs.Aggregates.{is_among}
use Rattle.stream_schema.specs.Streams.{stream_names}
use Rattle.catalogue.specs.Naming.{name_fault, name_fault_at}
use Rattle.catalogue.specs.Statements.{is_query, name_of, names_in, query_names}
use Rattle.catalogue.proofs.NameLemmas.{absent-queries, number_of-absent}
use Rattle.catalogue.proofs.NamingLemmas.{new-name}
use Rattle.catalogue.proofs.PlaceLemmas.{HaveNone-more, name_fault-at, names-with, query_names-with, slice_get-map}
use Rattle.catalogue.proofs.naming.name_all.Goals as goal

-- the statement is the first whose name has a fault
pub returns-in-Some-clause-err : goal.returns-in-Some-clause-err
returns-in-Some-clause-err c =
    let there = slice_get-map statement_of c.args.file.now.statements c.loop-place.place c.statement-statement.result.now c.statement-statement.ensures in
    let fault : c.in_ok-why.field-0 ≡ name_fault (stream_names c.loop-place.named.all) (name_of (statement_of c.statement-statement.result.now)) = c.in_ok-why.ensures ∙ ap (name_fault (stream_names c.loop-place.named.all)) c.name.ensures in
    record {
      place = c.loop-place.place;
      on_line = c.line.ensures;
      has = name_fault-at (map statement_of c.args.file.now.statements) c.loop-place.place (statement_of c.statement-statement.result.now) there (stream_names c.loop-place.named.all) c.in_ok-why.field-0 c.loop-place.invariant.all fault ∙ c.in-Some.is;
      none_before = c.loop-place.invariant.none;
    }

-- its name is new
pub admit-requires-clause-new : goal.admit-requires-clause-new
admit-requires-clause-new c =
    let none : c.in_ok-why.field-0 ≡ None = search rules in
    let fault : c.in_ok-why.field-0 ≡ name_fault (stream_names c.loop-place.named.all) (name_of (statement_of c.statement-statement.result.now)) = c.in_ok-why.ensures ∙ ap (name_fault (stream_names c.loop-place.named.all)) c.name.ensures in
    number_of-absent (name_of (statement_of c.statement-statement.result.now)) c.loop-place.named.all (stream_names c.loop-place.named.all) refl
    (new-name (stream_names c.loop-place.named.all) (name_of (statement_of c.statement-statement.result.now)) (sym fault ∙ none))

-- so it is no query's
pub admit-requires-clause-new_query : goal.admit-requires-clause-new_query
admit-requires-clause-new_query c =
    let none : c.in_ok-why.field-0 ≡ None = search rules in
    let fault : c.in_ok-why.field-0 ≡ name_fault (stream_names c.loop-place.named.all) (name_of (statement_of c.statement-statement.result.now)) = c.in_ok-why.ensures ∙ ap (name_fault (stream_names c.loop-place.named.all)) c.name.ensures in
    let so_far : stream_names c.loop-place.named.all ≡ names_in (take c.loop-place.place (map statement_of c.args.file.now.statements)) = c.loop-place.invariant.all ∙ take-map name_of c.loop-place.place (map statement_of c.args.file.now.statements) in
    number_of-absent (name_of (statement_of c.statement-statement.result.now)) c.loop-place.named.queries (query_names (take c.loop-place.place (map statement_of c.args.file.now.statements))) c.loop-place.invariant.queries
    (absent-queries (take c.loop-place.place (map statement_of c.args.file.now.statements)) (name_of (statement_of c.statement-statement.result.now))
    (ap (λ xs. is_among xs (name_of (statement_of c.statement-statement.result.now))) (sym so_far)
    ∙ new-name (stream_names c.loop-place.named.all) (name_of (statement_of c.statement-statement.result.now)) (sym fault ∙ none)))

-- one more statement is in the tables
pub loop-place-preserved : goal.loop-place-preserved
loop-place-preserved c =
    let there = slice_get-map statement_of c.args.file.now.statements c.loop-place.place c.statement-statement.result.now c.statement-statement.ensures in
    let none : c.in_ok-why.field-0 ≡ None = search rules in
    let fault : c.in_ok-why.field-0 ≡ name_fault (stream_names c.loop-place.named.all) (name_of (statement_of c.statement-statement.result.now)) = c.in_ok-why.ensures ∙ ap (name_fault (stream_names c.loop-place.named.all)) c.name.ensures in
    record {
      all = c.in_ok-admit.ensures.all ∙ ap (λ xs. xs ++ name_of (statement_of c.statement-statement.result.now) ∷ []) c.loop-place.invariant.all ∙ sym (names-with (map statement_of c.args.file.now.statements) c.loop-place.place (statement_of c.statement-statement.result.now) there);
      queries = c.in_ok-admit.ensures.queries ∙ ap (λ xs. xs ++ cond (is_query (statement_of c.statement-statement.result.now)) (name_of (statement_of c.statement-statement.result.now) ∷ []) []) c.loop-place.invariant.queries
          ∙ sym (query_names-with (map statement_of c.args.file.now.statements) c.loop-place.place (statement_of c.statement-statement.result.now) there);
      none = HaveNone-more (name_fault_at (map statement_of c.args.file.now.statements)) c.loop-place.place c.loop-place.invariant.none
          (name_fault-at (map statement_of c.args.file.now.statements) c.loop-place.place (statement_of c.statement-statement.result.now) there (stream_names c.loop-place.named.all) c.in_ok-why.field-0 c.loop-place.invariant.all fault ∙ none);
      there = c.in_ok-admit.ensures.there c.loop-place.invariant.there;
    }
