use Rattle.std.specs.Prelude.{IfSome}
use Rattle.static_index.specs.Choosing.{LiesWithin}
use Rattle.static_index.proofs.spanning.span_of.Given as goal

abbrev pub invariant-lows : goal.invariant-lows
invariant-lows l = IfSome l.least (LiesWithin l.parts)
