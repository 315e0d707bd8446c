use Rattle.std.proofs.Common.{◌≡◌, take, map}
use Rattle.std.specs.Prelude.{None}
use Rattle.scalar_expr.specs.Kinds.{sc_kind}
use Rattle.scalar_expr.specs.Views.{sc_of}
use Rattle.scalar_expr.specs.declared.scalar.Scalar.{Scalar}
use Rattle.automaton.proofs.typing.kinds_of.Given as goal

-- the kinds are those of the scalars so far
abbrev pub invariant-scalars : goal.invariant-scalars
invariant-scalars l = l.out ≡ map (λ (s : Scalar). sc_kind (sc_of s) l.kinds None) (take l.scalar-index l.scalars)
