-- The keys by which instances are looked up.
use Rattle.std.specs.Prelude.{◌≡◌, ◌↔◌, ℕ, ◌<◌, ⊤, Bool, true, not, ◌&&◌, List, length, Option, Some, None, Any, Contains}
use Rattle.std.specs.List.{filter}
use Rattle.event_types.specs.declared.comparison.Cmp.TheVariants as cmp
use Rattle.event_types.specs.declared.value.Value.{Value}
use Rattle.event_types.specs.Tuple.{TupleView}
use Rattle.semantics.specs.Nexts.{is_eligible}
use Rattle.semantics.specs.Scalars.{Pr}
use Rattle.semantics.specs.Truth.{is_met, order_of}
use Rattle.semantics.specs.Values.{value_at}
use Rattle.scalar_expr.specs.declared.alike.KeyPlaces.{KeyPlaces}
use Rattle.instances.specs.declared.instance.Instance.{Instance}

-- the key part of a condition: an attribute of the event equals one of the binding
pub record Key : Type 0 where
  pub event : ℕ
  pub binding : ℕ

-- the key whose attributes have these places, if places are given
abbrev pub key_of_places : Option KeyPlaces → Option Key
key_of_places None = None
key_of_places (Some places) = Some (record { event = places.event; binding = places.binding })

-- whether the key part holds for an event and a binding; without one every binding is looked at
abbrev pub key_matches : Option Key → TupleView → TupleView → Bool
key_matches None event binding = true
key_matches (Some key) event binding = is_met cmp.Eq (order_of (value_at event key.event) (value_at binding key.binding))

-- the instances for which the key part holds with an event, and all of them where there is none
abbrev pub candidates_of : Option Key → TupleView → List Instance → List Instance
candidates_of None event instances = instances
candidates_of (Some key) event instances = filter (λ instance. key_matches (Some key) event instance.tuple) instances

-- whether an instance is a candidate of an event that is eligible for it
abbrev pub is_matched : Option Key → List Pr → TupleView → Instance → Bool
is_matched key choose event instance = key_matches key event instance.tuple && is_eligible choose instance.tuple event

-- the instances without the candidates of an event that is eligible for them
abbrev pub unmatched : Option Key → List Pr → TupleView → List Instance → List Instance
unmatched key choose event instances = filter (λ instance. not (is_matched key choose event instance)) instances

-- the event has the attribute that the key names
abbrev pub EventFits : Option Key → TupleView → Type 0
EventFits None event = ⊤
EventFits (Some key) event = key.event < length event.vals

-- the binding has the attribute that the key names
abbrev pub BindingFits : Option Key → TupleView → Type 0
BindingFits None binding = ⊤
BindingFits (Some key) binding = key.binding < length binding.vals

-- the binding's key is a value
abbrev pub HasKey : Option Key → TupleView → Value → Type 0
HasKey None binding v = ⊥
HasKey (Some key) binding v = value_at binding key.binding ≡ v

-- there is room for the binding's key; without a key there always is
abbrev pub IsKeyReady : Option Key → List Value → TupleView → Type 0
IsKeyReady None ready binding = ⊤
IsKeyReady (Some key) ready binding = Contains ready (value_at binding key.binding)

-- the values that are ready are those of before that are the key of one of these instances
abbrev pub KeepsUsedKeys : Option Key → List Instance → List Value → List Value → Type 0
KeepsUsedKeys key instances old new = (v : Value) → Contains new v ↔ (Contains old v × Any (λ instance. HasKey key instance.tuple v) instances)
