use Rattle.std.proofs.Common.{◌≡◌, ◌∙◌, true, length, refl, sym}
use Rattle.std.specs.Prelude.{Some, slice_get}
use Rattle.std.specs.Str.{bytes_eq}
use Rattle.std.proofs.lemmas.Option.{slice_get_read}
use Rattle.cel_types.proofs.AssignLemmas.{among-at}
use Rattle.cel_types.proofs.aggregates.has_name.Goals as goal

pub returns-then-eq : goal.returns-then-eq
returns-then-eq c =
    let aggs = c.args.aggs.now in
    let i = c.loop-agg.agg-index in
    let agg = c.agg-item.result in
    let at : slice_get aggs i ≡ Some agg = slice_get_read aggs (length aggs) i agg refl c.loop-agg-test.true c.agg-item.is in
    let same : bytes_eq c.args.name.now agg.name ≡ true = rw c.as_str.ensures at (sym c.eq.ensures ∙ c.if-eq.true) in
    sym (among-at aggs i agg c.args.name.now at same)
