-- The first fault of a left operand. No public clause cites this module.
use Rattle.event_types.specs.declared.kind.Kind.TheVariants as kind
use Rattle.semantics.specs.Scalars.{Sc}
use Rattle.cel_grammar.specs.Trees.{Scalar}
use Rattle.cel_types.specs.declared.fault.TypeFault.{TypeFault}
use Rattle.cel_types.specs.declared.fault.TypeFault.TheVariants.{KindMismatch}
use Rattle.cel_types.specs.Scopes.{Scope}
use Rattle.cel_types.specs.Scalars.{IsOf, HasFault}

-- the first fault of a scalar as a left operand: its own, then that it is a text
pub data FailsAsOperand (scope : Scope) : Scalar → TypeFault → Type 0 where
  own : {x : Scalar} {f : TypeFault} → HasFault scope x f → FailsAsOperand scope x f
  a_text : {x : Scalar} {s : Sc} → IsOf scope x s kind.Text → FailsAsOperand scope x (KindMismatch kind.Int kind.Text)
