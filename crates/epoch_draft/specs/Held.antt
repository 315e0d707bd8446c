-- The instances that stores have, and for what they are made.
use Rattle.std.specs.Prelude.{◌≡◌, ℕ, List, [], length, Option, Some, None, slice_index_or}
use Rattle.std.specs.Option.{option_and_then, option_map}
use Rattle.instances.specs.Keys.{Key}
use Rattle.instances.specs.declared.instance.Instance.{Instance}
use Rattle.semantics.specs.Scalars.{Pr}
use Rattle.binding_index.specs.KeyParts.{first_key}
use Rattle.binding_index.specs.Leads.{ready_in}
use Rattle.binding_index.specs.Stores.{condition_of, instances_of, key_of}
use Rattle.binding_index.specs.declared.store.Store.{Store}
use Rattle.epoch_laws.specs.Closing.{Stores}

-- the instances of a state's store; a state without a store has none
abbrev pub instances_in : Option Store → List Instance
instances_in None = []
instances_in (Some store) = instances_of store

-- the instances of each state, by its number
abbrev pub held : List (Option Store) → Stores
held stores number = instances_in (slice_index_or stores number None)

-- for what a store is made: a condition, and the key by which it finds instances
pub record Shape : Type 0 where
  pub condition : List Pr
  pub key : Option Key

-- the condition with the key of its first key part
abbrev pub shape_for : List Pr → Shape
shape_for choose = record { condition = choose; key = first_key choose }

-- whether there is a store, and for what it is made
abbrev pub shape_of : Option Store → Option Shape
shape_of slot = option_map (λ store. record { condition = condition_of store; key = key_of store }) slot

-- the key of a state's store, if it has one
abbrev pub key_in : Option Store → Option Key
key_in slot = option_and_then (λ shape. shape.key) (shape_of slot)

-- the stores are as many, and made for the same conditions and keys
pub record SameShapes (old new : List (Option Store)) : Type 0 where
  pub as_many : length new ≡ length old
  pub shapes : (number : ℕ) → shape_of (slice_index_or new number None) ≡ shape_of (slice_index_or old number None)

-- the same keys are ready in each store
abbrev pub SameReady : List (Option Store) → List (Option Store) → Type 0
SameReady old new = (number : ℕ) → ready_in (slice_index_or new number None) ≡ ready_in (slice_index_or old number None)

-- the stores are made for the same, and have the same instances
pub record SameStored (old new : List (Option Store)) : Type 0 where
  pub same : SameShapes old new
  pub held : (number : ℕ) → held new number ≡ held old number
