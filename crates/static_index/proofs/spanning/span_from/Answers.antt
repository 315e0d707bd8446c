use Rattle.static_index.specs.Choosing.{LiesWithin}
use Rattle.static_index.proofs.SpanLemmas.{either, within_all}
use Rattle.static_index.proofs.spanning.span_from.Goals as goal

pub highs-preserved : goal.highs-preserved
highs-preserved c =
    let parts = c.args.parts.now in
    either (LiesWithin parts) c.highs.least c.span_between.result c.lesser-least.result c.lesser-least.ensures c.highs.invariant
    (within_all parts c.args.low c.highs.high c.get.result.now c.get-in-highs.result.now c.span_between.result c.get.ensures c.get-in-highs.ensures c.span_between.ensures)
