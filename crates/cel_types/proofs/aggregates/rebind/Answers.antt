use Rattle.std.proofs.Common.{◌≡◌, ◌∙◌, ◌+◌, sym, refl, length, map, drop}
use Rattle.std.specs.Prelude.{Some, slice_get}
use Rattle.std.proofs.lemmas.List.{length-map}
use Rattle.std.proofs.lemmas.Option.{slice_get_read}
use Rattle.std.proofs.lemmas.Result.{err_from_is_err_and}
use Rattle.cel_grammar.specs.Views.{agg_of}
use Rattle.scalar_expr.specs.Views.{sc_of}
use Rattle.cel_types.proofs.AssignLemmas.{assign-fails, fails-before}
use Rattle.cel_types.proofs.RebindLemmas.{length-rebinds, rebinds-more, rebinds-none}
use Rattle.cel_types.proofs.SplitLemmas.{map-at, map-split}
use Rattle.cel_types.proofs.aggregates.rebind.Goals as goal

pub loop-place-init : goal.loop-place-init
loop-place-init c = rebinds-none (map sc_of c.in_ok-terms.terms.items) (rw (← c.size.ensures.value) c.in_ok-terms.ensures)

pub assign-requires : goal.assign-requires
assign-requires c = sym (length-map c.loop-place.terms.items sc_of) ∙ length-rebinds c.loop-place.invariant

pub returns-in_err-assign-clause-err : goal.returns-in_err-assign-clause-err
returns-in_err-assign-clause-err c =
    let aggs = c.args.aggs.now in
    let i = c.loop-place.place in
    let agg = c.index-aggs-place.result in
    let at : slice_get aggs i ≡ Some agg = slice_get_read aggs (length aggs) i agg refl c.loop-place-test.true c.index-aggs-place.is in
    let p = err_from_is_err_and c.from_residual-in_err-assign.result c.from_residual-in_err-assign.ensures.1 in
    rw (p.1, p.2) (λ known.
    rw (← map-split agg_of aggs i agg at)
    (fails-before (map agg_of (drop (i + 1) aggs)) (assign-fails c.loop-place.invariant.assigns (c.in_err-assign.ensures.err known))))

pub loop-place-preserved : goal.loop-place-preserved
loop-place-preserved c =
    let aggs = c.args.aggs.now in
    let i = c.loop-place.place in
    let agg = c.index-aggs-place.result in
    let at : slice_get aggs i ≡ Some agg = slice_get_read aggs (length aggs) i agg refl c.loop-place-test.true c.index-aggs-place.is in
    rw (map-at agg_of aggs i agg at) (rebinds-more c.loop-place.invariant c.in_ok-assign.ensures.ok)
