use Rattle.std.proofs.Common.{◌≡◌, take, map}
use Rattle.std.specs.Option.{option_copied}
use Rattle.semantics.specs.Values.{val}
use Rattle.scalar_expr.specs.Views.{sc_of}
use Rattle.scalar_expr.specs.declared.scalar.Scalar.{Scalar}
use Rattle.scalar_expr.proofs.projection.values_of.Given as goal

-- the values are those of the scalars so far
abbrev pub invariant-scalars : goal.invariant-scalars
invariant-scalars l = l.vals ≡ map (λ (s : Scalar). val (sc_of s) l.event (option_copied l.binding)) (take l.scalar-index l.scalars)
