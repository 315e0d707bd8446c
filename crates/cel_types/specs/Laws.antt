-- Laws over types: each is had at most once, and never beside a fault.
use Rattle.std.specs.Prelude.{◌≡◌, List}
use Rattle.event_types.specs.declared.kind.Kind.{Kind}
use Rattle.semantics.specs.Scalars.{Sc, Pr}
use Rattle.stream_schema.specs.Schema.{Attr}
use Rattle.cel_grammar.specs.Trees.{Scalar, Pred, Statement}
use Rattle.cel_types.specs.declared.fault.TypeFault.{TypeFault}
use Rattle.cel_types.specs.Scopes.{Scope}
use Rattle.cel_types.specs.Scalars.{IsOf, HasFault}
use Rattle.cel_types.specs.Predicates.{Means, Fails}
use Rattle.cel_types.specs.Statements.{Declares, FailsAsDeclaration}

-- a scalar means at most one term, of one kind
abbrev pub OneTerm : Type 0
OneTerm = (scope : Scope) (x : Scalar) (s t : Sc) (k l : Kind) → IsOf scope x s k → IsOf scope x t l → (s ≡ t) × (k ≡ l)

-- a scalar has at most one first fault
abbrev pub OneScalarFault : Type 0
OneScalarFault = (scope : Scope) (x : Scalar) (f g : TypeFault) → HasFault scope x f → HasFault scope x g → f ≡ g

-- no scalar has both a kind and a fault
abbrev pub TermOrFault : Type 0
TermOrFault = (scope : Scope) (x : Scalar) (s : Sc) (k : Kind) (f : TypeFault) → IsOf scope x s k → HasFault scope x f → ⊥

-- a predicate means at most one term
abbrev pub OneMeaning : Type 0
OneMeaning = (scope : Scope) (p : Pred) (u v : Pr) → Means scope p u → Means scope p v → u ≡ v

-- a predicate has at most one first fault
abbrev pub OnePredicateFault : Type 0
OnePredicateFault = (scope : Scope) (p : Pred) (f g : TypeFault) → Fails scope p f → Fails scope p g → f ≡ g

-- no predicate has both a meaning and a fault
abbrev pub MeaningOrFault : Type 0
MeaningOrFault = (scope : Scope) (p : Pred) (u : Pr) (f : TypeFault) → Means scope p u → Fails scope p f → ⊥

-- a declaration has at most one schema
abbrev pub OneSchema : Type 0
OneSchema = (statement : Statement) (schema other : List Attr) → Declares statement schema → Declares statement other → schema ≡ other

-- a declaration has at most one first fault
abbrev pub OneDeclarationFault : Type 0
OneDeclarationFault = (statement : Statement) (f g : TypeFault) → FailsAsDeclaration statement f → FailsAsDeclaration statement g → f ≡ g

-- no declaration has both a schema and a fault
abbrev pub SchemaOrFault : Type 0
SchemaOrFault = (statement : Statement) (schema : List Attr) (f : TypeFault) → Declares statement schema → FailsAsDeclaration statement f → ⊥
