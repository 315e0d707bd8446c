use Rattle.std.proofs.Common.{◌≡◌, ◌∙◌, [], ap, get_or, subst, sym, List}
use Rattle.std.specs.Prelude.{IfOk}
use Rattle.std.proofs.lemmas.Option.{get_or_from_slice_get}
use Rattle.catalogue.specs.Catalogued.{query_in}
use Rattle.derivations.specs.DerivedTuples.{DerivedTuple}
use Rattle.derivations.specs.Tables.{streams_of}
use Rattle.lineage.proofs.tables.listed_for.Goals as goal

-- the list of the query's stream
pub returns : goal.returns
returns c =
    let is : c.as_slice.result.now ≡ streams_of c.args.streams.now (query_in c.args.catalogue.now c.args.query).stream =
    c.as_slice.ensures ∙ sym (get_or_from_slice_get c.args.streams.now c.stream_of.result c.get-found.result.now [] c.get-found.ensures) ∙ ap (λ s. get_or c.args.streams.now s []) c.stream_of.ensures.value in
    subst (λ (list : List DerivedTuple). IfOk c.copy_listed.result (λ found. found ≡ list)) is c.copy_listed.ensures
