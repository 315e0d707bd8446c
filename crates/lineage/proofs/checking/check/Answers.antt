use Rattle.std.proofs.Common.{◌≡◌, ◌∙◌, ◌↔◌, [], ap, subst, sym, List}
use Rattle.std.specs.Prelude.{Contains, IsTrue}
use Rattle.std.proofs.lemmas.Option.{get_or_from_slice_get}
use Rattle.catalogue.specs.Catalogued.{program_in, query_in}
use Rattle.derivations.specs.DerivedPrograms.{derived_env}
use Rattle.derivations.specs.DerivedTuples.{DerivedTuple}
use Rattle.derivations.specs.HeardLines.{events_of}
use Rattle.derivations.specs.Views.{derivation_of}
use Rattle.derivations.specs.declared.history.Heard.{Heard}
use Rattle.lineage.proofs.ListedLemmas.{is_listed_where_derived}
use Rattle.lineage.proofs.checking.check.Goals as goal

-- what is listed on the query's stream is what derives
pub returns : goal.returns
returns g c =
    let history = events_of c.args.history.now in
    let is : c.as_slice-2.result.now ≡ derived_env (program_in c.args.catalogue.now) history (query_in c.args.catalogue.now c.args.query).stream =
    c.as_slice-2.ensures ∙ sym (get_or_from_slice_get c.in_ok-streams.streams c.stream_of.result c.get-found.result.now [] c.get-found.ensures)
    ∙ (λ i. (c.in_ok-streams.ensures.streams ∙ ap (λ (lines : List Heard). derived_env (program_in c.args.catalogue.now) (events_of lines)) c.as_slice.ensures.value) i (c.stream_of.ensures.value i)) in
    let listed = subst (λ (found : List DerivedTuple). IsTrue c.is_listed.result ↔ Contains found (record { tuple = c.args.tuple.now; by = derivation_of c.args.deriv.now })) is c.is_listed.ensures in
    let derives = is_listed_where_derived c.args.catalogue.now c.work_out.ensures.stands history c.requires.unborn c.as_slice.ensures.sound c.args.query c.requires.query (derivation_of c.args.deriv.now) c.args.tuple.now in
    (λ yes. derives.0 (listed.0 yes), λ d. listed.1 (derives.1 d))
