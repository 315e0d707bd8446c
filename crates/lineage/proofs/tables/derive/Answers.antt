use Rattle.std.proofs.Common.{◌≡◌, ◌∙◌, ◌+◌, ◌∷◌, ◌++◌, [], ap, arith, length, map, sym, ℕ, List}
use Rattle.std.specs.List.{range_with_len}
use Rattle.std.proofs.lemmas.List.FromFn.{map-range_with_len_more}
use Rattle.catalogue.specs.Catalogued.{program_in, query_in}
use Rattle.derivations.specs.DerivedPrograms.{derived_env}
use Rattle.derivations.specs.DerivedTuples.{DerivedTuple}
use Rattle.derivations.specs.HeardLines.{events_of}
use Rattle.derivations.specs.Tables.{streams_of}
use Rattle.derivations.specs.declared.history.Heard.{Heard}
use Rattle.lineage.proofs.ListedLemmas.{are_derivations}
use Rattle.lineage.proofs.tables.derive.Goals as goal

-- one more query has the list of its stream
pub loop-query-preserved : goal.loop-query-preserved
loop-query-preserved g c =
    let list : ℕ → List DerivedTuple = λ number. streams_of c.in_ok-streams.streams (query_in c.args.catalogue.now number).stream in
    let sum : 0 + c.loop-query.query ≡ c.loop-query.query = omega arith in
    c.in_ok-add.ensures.ok ∙ (λ i. c.loop-query.invariant i ++ c.in_ok-listed_for.ensures i ∷ []) ∙ sym (map-range_with_len_more list 0 c.loop-query.query c.loop-query.query sum)

-- at the end each has it
pub returns : goal.returns
returns g c =
    let history = events_of c.args.history.now in
    let many : c.loop-query.query ≡ length c.args.catalogue.now.order = omega arith in
    let is = c.in_ok-streams.ensures.streams ∙ ap (λ (lines : List Heard). derived_env (program_in c.args.catalogue.now) (events_of lines)) c.as_slice.ensures.value in
    are_derivations c.args.catalogue.now c.work_out.ensures.stands history c.requires.unborn c.as_slice.ensures.sound c.loop-query.table
    (c.loop-query.invariant ∙ (λ i. map (λ number. is i (query_in c.args.catalogue.now number).stream) (range_with_len 0 (many i))))
