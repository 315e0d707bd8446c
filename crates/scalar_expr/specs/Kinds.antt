-- The kind of a scalar over an event and a binding of given kinds.
use Rattle.std.specs.Prelude.{ℕ, ◌<◌, ⊤, length, List, Option, Some, None, slice_index_or}
use Rattle.event_types.specs.declared.kind.Kind.{Kind}
use Rattle.event_types.specs.declared.kind.Kind.TheVariants as kind
use Rattle.semantics.specs.Scalars.{Sc, Lit, Event, Binding, Dur, Two}
use Rattle.semantics.specs.Kinds.{value_kind}
use Rattle.semantics.specs.OpKinds.{op_kind}

-- the kind at a place of a schema
abbrev pub kind_at : List Kind → ℕ → Kind
kind_at kinds place = slice_index_or kinds place kind.Int

-- the kind at a place of the binding's schema
abbrev pub bound_kind : Option (List Kind) → ℕ → Kind
bound_kind None place = kind.Int
bound_kind (Some kinds) place = kind_at kinds place

-- the kind, or a whole number where there is none
abbrev pub or_int : Option Kind → Kind
or_int None = kind.Int
or_int (Some k) = k

-- the kind of a scalar by the rules of typing: that of its literal or its attribute, a whole number for DUR, and that of an operation by its operands, which counts as a whole number where it has none
abbrev pub sc_kind : Sc → List Kind → Option (List Kind) → Kind
sc_kind (Lit v) event binding = value_kind v
sc_kind (Event place) event binding = kind_at event place
sc_kind (Binding place) event binding = bound_kind binding place
sc_kind Dur event binding = kind.Int
sc_kind (Two op x y) event binding = or_int (op_kind op (sc_kind x event binding) (sc_kind y event binding))

-- each attribute of the scalar is a place of its schema, and a binding is given where it reads one
abbrev pub HasPlace : Sc → List Kind → Option (List Kind) → Type 0
HasPlace (Event place) event binding = place < length event
HasPlace (Binding place) event None = ⊥
HasPlace (Binding place) event (Some kinds) = place < length kinds
HasPlace (Two op x y) event binding = HasPlace x event binding × HasPlace y event binding
HasPlace s event binding = ⊤
