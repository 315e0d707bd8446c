-- Tuples that stand by key, for the conditions that have one. No public clause cites this.
use Rattle.std.specs.Prelude.{◌≡◌, ◌==◌, ℕ, Bool, true, false, List, Option, Some, None, position, slice_get}
use Rattle.std.specs.List.{filter}
use Rattle.std.specs.Ordering.{eq_by_cmp}
use Rattle.event_types.specs.Order.{value_cmp}
use Rattle.event_types.specs.Tuple.{TupleView}
use Rattle.event_types.specs.declared.value.Value.{Value}
use Rattle.event_types.specs.declared.value.Value.TheVariants.{Over}
use Rattle.semantics.specs.Scalars.{Pr}
use Rattle.semantics.specs.Truth.{all_true}
use Rattle.semantics.specs.Values.{value_at}
use Rattle.scalar_expr.specs.declared.alike.KeyPlaces.{KeyPlaces}
use Rattle.derivations.specs.DerivedTuples.{DerivedTuple}

-- the attributes are equal wherever the condition holds
abbrev pub IsKeyOf : List Pr → KeyPlaces → Type 0
IsKeyOf condition key = (event binding : TupleView) → all_true condition event (Some binding) ≡ true → value_at event key.event ≡ value_at binding key.binding

-- the value as a key; OVER is none
abbrev pub as_key : Value → Option Value
as_key Over = None
as_key value = Some value

-- the place of a key among keys, if it is one of them
abbrev pub key_among : List Value → Option Value → Option ℕ
key_among keys None = None
key_among keys (Some key) = position (eq_by_cmp value_cmp key) keys

-- the place of a value among keys
abbrev pub place_of : List Value → Value → Option ℕ
place_of keys value = key_among keys (as_key value)

-- the place is there, and is this one
abbrev pub is_place : ℕ → Option ℕ → Bool
is_place place None = false
is_place place (Some other) = place == other

-- the key at a place is the tuple's
abbrev pub has_key_at : ℕ → List Value → ℕ → DerivedTuple → Bool
has_key_at event keys place x = is_place place (place_of keys (value_at x.tuple event))

-- at the place of each key stand the tuples that have it
abbrev pub AreParted : ℕ → List Value → List (List DerivedTuple) → List DerivedTuple → Type 0
AreParted event keys sides found = (place : ℕ) (side : List DerivedTuple) → slice_get sides place ≡ Some side → side ≡ filter (has_key_at event keys place) found
