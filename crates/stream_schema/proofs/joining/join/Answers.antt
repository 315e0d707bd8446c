use Rattle.std.proofs.Common.{◌∙◌, ap, sym, length, arith}
use Rattle.stream_schema.specs.Joining.{with_free}
use Rattle.stream_schema.specs.Schema.{Attr}
use Rattle.stream_schema.proofs.JoinLemmas.{attr-at, joined-more, length-with_free}
use Rattle.stream_schema.proofs.joining.join.Goals as goal

pub loop-place-preserved : goal.loop-place-preserved
loop-place-preserved c =
    let right = c.args.right.now in
    let place = c.loop-place.place in
    let attr : Attr = record { name = c.name.result.now; kind = c.kind.result } in
    let there = attr-at right place c.name.result.now c.kind.result c.name.ensures c.kind.ensures in
    let put = c.in_ok-add_freely.ensures.ok in
    record {
      attributes = put ∙ ap (λ attrs. with_free attrs attr) c.loop-place.invariant.attributes ∙ sym (joined-more c.args.left.now right place attr there);
      count = let longer = ap length put ∙ length-with_free c.loop-place.schema attr in omega (arith, longer);
    }
