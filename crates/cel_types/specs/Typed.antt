-- The kinds of the tuples that a scalar stands over, and that what has a type here is typed over those kinds.
use Rattle.std.specs.Prelude.{List, Option, Some, None}
use Rattle.event_types.specs.declared.kind.Kind.{Kind}
use Rattle.semantics.specs.Scalars.{Sc, Pr}
use Rattle.semantics.specs.Typing.{IsOfKind, IsTyped, AreTyped}
use Rattle.scalar_expr.specs.Canonical.{canonical}
use Rattle.stream_schema.specs.Schema.{kinds_of}
use Rattle.cel_grammar.specs.Trees.{Scalar, Pred}
use Rattle.cel_types.specs.Scopes.{Scope, Alone, Sequence, Iteration}
use Rattle.cel_types.specs.Scalars.{IsOf}
use Rattle.cel_types.specs.Predicates.{Means}

-- the kinds of the event: of the tuple of FILTER and SELECT, of the right event of NEXT and FOLD
abbrev pub event_kinds : Scope → List Kind
event_kinds (Alone attrs) = kinds_of attrs
event_kinds (Sequence left right) = kinds_of right
event_kinds (Iteration binding event) = kinds_of event

-- the kinds of the binding, if there is one: of the left tuple of NEXT, of the binding of FOLD
abbrev pub binding_kinds : Scope → Option (List Kind)
binding_kinds (Alone attrs) = None
binding_kinds (Sequence left right) = Some (kinds_of left)
binding_kinds (Iteration binding event) = Some (kinds_of binding)

-- the term of a scalar is of the scalar's kind
abbrev pub TermsAreOfKind : Type 0
TermsAreOfKind = (scope : Scope) (x : Scalar) (s : Sc) (k : Kind) → IsOf scope x s k → IsOfKind s (event_kinds scope) (binding_kinds scope) k

-- the term of a predicate is typed
abbrev pub MeaningsAreTyped : Type 0
MeaningsAreTyped = (scope : Scope) (p : Pred) (u : Pr) → Means scope p u → IsTyped u (event_kinds scope) (binding_kinds scope)

-- the parts of its canonical form are typed
abbrev pub ConditionsAreTyped : Type 0
ConditionsAreTyped = (scope : Scope) (p : Pred) (u : Pr) → Means scope p u → AreTyped (canonical u) (event_kinds scope) (binding_kinds scope)
