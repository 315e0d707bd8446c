-- The kinds of values, tuples and streams.
use Rattle.std.specs.Prelude.{◌≡◌, ⊤, ℕ, ◌<◌, List, [], ◌∷◌}
use Rattle.std.specs.List.{All}
use Rattle.event_types.specs.declared.kind.Kind.{Kind}
use Rattle.event_types.specs.declared.kind.Kind.TheVariants as kind
use Rattle.event_types.specs.declared.value.Value.{Value}
use Rattle.event_types.specs.declared.value.Value.TheVariants as value
use Rattle.event_types.specs.Tuple.{TupleView}
use Rattle.semantics.specs.Denotation.{Streams}

-- the kind of a value; OVER by itself counts as a whole number
abbrev pub value_kind : Value → Kind
value_kind (value.Int number) = kind.Int
value_kind value.Over = kind.Int
value_kind (value.Text text) = kind.Text
value_kind (value.Dec scale units) = kind.Dec scale

-- OVER is of each kind but TEXT
abbrev pub TakesOver : Kind → Type 0
TakesOver kind.Text = ⊥
TakesOver k = ⊤

-- the value is of this kind
abbrev pub ValueHasKind : Kind → Value → Type 0
ValueHasKind k value.Over = TakesOver k
ValueHasKind k v = value_kind v ≡ k

-- the values are of these kinds, one by one
abbrev pub ValuesHaveKinds : List Kind → List Value → Type 0
ValuesHaveKinds [] [] = ⊤
ValuesHaveKinds (k ∷ kinds) (v ∷ vals) = ValueHasKind k v × ValuesHaveKinds kinds vals
ValuesHaveKinds kinds vals = ⊥

-- the values of the tuple have these kinds, one by one
abbrev pub HasKinds : List Kind → TupleView → Type 0
HasKinds kinds tuple = ValuesHaveKinds kinds tuple.vals

-- each tuple of the first so many streams has the kinds of its stream
abbrev pub HaveKinds : (ℕ → List Kind) → ℕ → Streams → Type 0
HaveKinds kinds count streams = (stream : ℕ) → stream < count → All (HasKinds (kinds stream)) (streams stream)
