-- Scopes and typed scalars of the program as those of the definitions. No public clause cites this module.
use Rattle.event_types.specs.declared.kind.Kind.{Kind}
use Rattle.scalar_expr.specs.declared.scalar.Scalar.{Scalar}
use Rattle.scalar_expr.specs.Views.{sc_of}
use Rattle.cel_types.specs.declared.scope.Scope.{Scope}
use Rattle.cel_types.specs.declared.scope.Scope.TheVariants as code
use Rattle.cel_types.specs.Scopes as the

-- the scope, with schemas in place of references
abbrev pub scope_of : Scope → the.Scope
scope_of (code.Alone schema) = the.Alone schema.now
scope_of (code.Sequence left right) = the.Sequence left.now right.now
scope_of (code.Iteration binding event) = the.Iteration binding.now event.now

-- the scalar and its kind, with a term for the scalar
abbrev pub typed_of : Scalar × Kind → the.Typed
typed_of p = record { term = sc_of p.0; kind = p.1 }
