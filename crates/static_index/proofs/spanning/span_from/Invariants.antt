use Rattle.std.specs.Prelude.{IfSome}
use Rattle.static_index.specs.Choosing.{LiesWithin}
use Rattle.static_index.proofs.spanning.span_from.Given as goal

abbrev pub invariant-highs : goal.invariant-highs
invariant-highs l = IfSome l.least (LiesWithin l.parts)
