-- A law over kinds.
use Rattle.std.specs.Prelude.{◌≡◌, List, Option}
use Rattle.event_types.specs.declared.kind.Kind.{Kind}
use Rattle.semantics.specs.Scalars.{Sc}
use Rattle.semantics.specs.Typing.{IsOfKind}
use Rattle.scalar_expr.specs.Kinds.{HasPlace, sc_kind}

-- a typed scalar reads a place that is there, and its one kind is that which is told
abbrev pub TypedHasItsKind : Type 0
TypedHasItsKind = (s : Sc) (event : List Kind) (binding : Option (List Kind)) (k : Kind) → IsOfKind s event binding k → HasPlace s event binding × (sc_kind s event binding ≡ k)
