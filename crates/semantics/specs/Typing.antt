-- Scalars, conditions and expressions that are typed over given kinds.
use Rattle.std.specs.Prelude.{◌≡◌, ⊤, ℕ, ◌<◌, List, [], ◌∷◌, ◌++◌, Option, Some, None, slice_get}
use Rattle.std.specs.List.{All}
use Rattle.event_types.specs.declared.kind.Kind.{Kind}
use Rattle.event_types.specs.declared.kind.Kind.TheVariants as kind
use Rattle.semantics.specs.Scalars.{Sc, Lit, Event, Binding, Dur, Two, Pr, True, Test, And, Or, Not}
use Rattle.semantics.specs.Expressions.{Ex, Read, Filter, Select, Union, Next, Fold}
use Rattle.semantics.specs.Kinds.{value_kind}
use Rattle.semantics.specs.OpKinds.{op_kind}

-- the scalar is of this kind over an event and a binding of those kinds: its attributes are there, and its operations have kinds
abbrev pub IsOfKind : Sc → List Kind → Option (List Kind) → Kind → Type 0
IsOfKind (Lit v) event binding k = value_kind v ≡ k
IsOfKind (Event place) event binding k = slice_get event place ≡ Some k
IsOfKind (Binding place) event None k = ⊥
IsOfKind (Binding place) event (Some binding) k = slice_get binding place ≡ Some k
IsOfKind Dur event binding k = kind.Int ≡ k
IsOfKind (Two op x y) event binding k = (left : Kind) × (right : Kind) × IsOfKind x event binding left × IsOfKind y event binding right × (op_kind op left right ≡ Some k)

-- the scalars are of these kinds, one by one
abbrev pub AreOfKinds : List Sc → List Kind → Option (List Kind) → List Kind → Type 0
AreOfKinds [] event binding [] = ⊤
AreOfKinds (s ∷ parts) event binding (k ∷ kinds) = IsOfKind s event binding k × AreOfKinds parts event binding kinds
AreOfKinds [] event binding (k ∷ kinds) = ⊥
AreOfKinds (s ∷ parts) event binding [] = ⊥

-- the scalars that the predicate compares are of one kind
abbrev pub IsTyped : Pr → List Kind → Option (List Kind) → Type 0
IsTyped True event binding = ⊤
IsTyped (Test x c y) event binding = (k : Kind) × IsOfKind x event binding k × IsOfKind y event binding k
IsTyped (And p q) event binding = IsTyped p event binding × IsTyped q event binding
IsTyped (Or p q) event binding = IsTyped p event binding × IsTyped q event binding
IsTyped (Not p) event binding = IsTyped p event binding

-- the same of each part of a condition
abbrev pub AreTyped : List Pr → List Kind → Option (List Kind) → Type 0
AreTyped condition event binding = All (λ p. IsTyped p event binding) condition

-- the expression reads the first so many streams, which are of these kinds, and gives tuples of those kinds
abbrev pub IsTypedOver : Ex → ℕ → (ℕ → List Kind) → List Kind → Type 0
IsTypedOver (Read stream) count kinds out = (stream < count) × (kinds stream ≡ out)
IsTypedOver (Filter p e) count kinds out = IsTypedOver e count kinds out × AreTyped p out None
IsTypedOver (Select m e) count kinds out = (mid : List Kind) × IsTypedOver e count kinds mid × AreOfKinds m.parts mid None out
IsTypedOver (Union e f) count kinds out = IsTypedOver e count kinds out × IsTypedOver f count kinds out
IsTypedOver (Next p e f) count kinds out = (left : List Kind) × (right : List Kind) × IsTypedOver e count kinds left × IsTypedOver f count kinds right × AreTyped p right (Some left) × (left ++ right ≡ out)
IsTypedOver (Fold p q m e f) count kinds out =
    (right : List Kind) × IsTypedOver e count kinds out × IsTypedOver f count kinds right
    × AreTyped p right (Some out) × AreTyped q right (Some out) × AreOfKinds m.parts right (Some out) out
