-- Room in the stores for the beads of an epoch.
use Rattle.std.specs.Prelude.{ℕ, ◌<◌, List, [], Option, None, Contains, length, slice_index_or}
use Rattle.std.specs.List.{All}
use Rattle.event_types.specs.declared.value.Value.{Value}
use Rattle.semantics.specs.Values.{value_at}
use Rattle.instances.specs.Keys.{BindingFits, IsKeyReady, Key}
use Rattle.instances.specs.declared.instance.Instance.{Instance}
use Rattle.binding_index.specs.Leads.{ready_in}
use Rattle.binding_index.specs.declared.store.Store.{Store}
use Rattle.epoch_draft.specs.Held.{key_in}

-- an instance has the attribute that a key names, and is ready by it
pub record HasRoom (key : Option Key) (ready : List Value) (instance : Instance) : Type 0 where
  pub fits : BindingFits key instance.tuple
  pub is_ready : IsKeyReady key ready instance.tuple

-- an instance has a value at a place, and the value is one of those that are ready
abbrev pub HasReadyAt : ℕ → List Value → Instance → Type 0
HasReadyAt place ready instance = (place < length instance.tuple.vals) × Contains ready (value_at instance.tuple place)

-- there is room for these instances in a state's store
abbrev pub HaveRoomIn : Option Store → List Instance → Type 0
HaveRoomIn slot instances = All (HasRoom (key_in slot) (ready_in slot)) instances

-- there is room for the beads of each state in its store
abbrev pub HaveRoom : List (Option Store) → List (List Instance) → Type 0
HaveRoom stores beads = (number : ℕ) → HaveRoomIn (slice_index_or stores number None) (slice_index_or beads number [])

-- these instances have the attribute that the key of a state's store names
abbrev pub HaveKeyIn : Option Store → List Instance → Type 0
HaveKeyIn slot instances = All (λ instance. BindingFits (key_in slot) instance.tuple) instances

-- the beads of each state have the attribute that the key of its store names
abbrev pub HaveKeys : List (Option Store) → List (List Instance) → Type 0
HaveKeys stores beads = (number : ℕ) → HaveKeyIn (slice_index_or stores number None) (slice_index_or beads number [])
