use Rattle.std.proofs.Common.{take}
use Rattle.static_index.specs.Ranges.{Bounds}
use Rattle.static_index.proofs.number_range.range_of.Given as goal

abbrev pub invariant-places : goal.invariant-places
invariant-places l = Bounds l.range (take l.place l.parts)
