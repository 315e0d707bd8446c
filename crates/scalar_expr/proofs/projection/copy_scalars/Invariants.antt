use Rattle.std.proofs.Common.{◌≡◌, take, map}
use Rattle.scalar_expr.specs.Views.{sc_of}
use Rattle.scalar_expr.proofs.projection.copy_scalars.Given as goal

-- the copies are those of the scalars so far
abbrev pub invariant-scalars : goal.invariant-scalars
invariant-scalars l = map sc_of l.copies ≡ map sc_of (take l.scalar-index l.scalars)
