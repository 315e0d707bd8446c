use Rattle.static_index.specs.Choosing.{LiesWithin}
use Rattle.static_index.proofs.SpanLemmas.{either}
use Rattle.static_index.proofs.spanning.span_of.Goals as goal

pub lows-preserved : goal.lows-preserved
lows-preserved c = either (LiesWithin c.args.parts.now) c.lows.least c.span_from.result c.lesser-least.result c.lesser-least.ensures c.lows.invariant c.span_from.ensures
