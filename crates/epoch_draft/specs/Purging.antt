-- What the purge of stores does.
use Rattle.std.specs.Prelude.{◌≡◌, ℕ, List, [], Option, Some, None, Any, Contains, slice_index_or}
use Rattle.std.specs.List.{All}
use Rattle.automaton.specs.States.{Net, wait_at}
use Rattle.automaton.specs.declared.wait.Wait.{Wait}
use Rattle.instances.specs.Births.{began_after}
use Rattle.instances.specs.Bounds.{alive_instances}
use Rattle.instances.specs.Keys.{HasKey}
use Rattle.binding_index.specs.Leads.{ready_in}
use Rattle.binding_index.specs.Stores.{condition_of, instances_of}
use Rattle.binding_index.specs.declared.store.Store.{Store}
use Rattle.instances.specs.declared.instance.Instance.{Instance}
use Rattle.epoch_laws.specs.Births.{IsLeastBirth}
use Rattle.epoch_draft.specs.Behind.{IsBirthBehind}
use Rattle.epoch_draft.specs.Held.{SameShapes, SameStored, held, instances_in, key_in}
use Rattle.epoch_draft.specs.Led.{StayReady}

-- those of a store's instances that are alive at a time; a state without a store has none
abbrev pub alive_in : ℕ → Option Store → List Instance
alive_in time None = []
alive_in time (Some store) = alive_instances time (condition_of store) (instances_of store)

-- those that began after a birth and are alive at a time
abbrev pub left_in : ℕ → Option ℕ → Option Store → List Instance
left_in time since None = []
left_in time since (Some store) = alive_instances time (condition_of store) (began_after since (instances_of store))

-- what a purge leaves of the store of a state: what is alive at a time and began after the least birth of the ends that use the state
abbrev pub IsLeftAt : Net → ℕ → ℕ → Option Store → List Instance → Type 0
IsLeftAt net time number slot left = (since : Option ℕ) × IsLeastBirth (IsBirthBehind net number) since × (left ≡ left_in time since slot)

-- each key that is ready in a state's store is that of one of its instances
abbrev pub AreUsedIn : Option Store → Type 0
AreUsedIn slot = All (λ value. Any (λ instance. HasKey (key_in slot) instance.tuple value) (instances_in slot)) (ready_in slot)

-- the stores have the same instances, and those with these numbers keep the keys of their instances alone
pub record ForgetUnusedIn (numbers : List ℕ) (old new : List (Option Store)) : Type 0 where
  pub same : SameStored old new
  pub used : (number : ℕ) → Contains numbers number → AreUsedIn (slice_index_or new number None)
  pub stay : StayReady old new

-- the store of a state was purged, if it is a waiting state, and all others are the same
pub record IsPurgedAt (net : Net) (time number : ℕ) (old new : List (Option Store)) : Type 0 where
  pub same : SameShapes old new
  pub purged : (wait : Wait) → wait_at net number ≡ Some wait → IsLeftAt net time number (slice_index_or old number None) (held new number)
  pub used : (wait : Wait) → wait_at net number ≡ Some wait → AreUsedIn (slice_index_or new number None)
  pub stay : StayReady old new
  pub none : wait_at net number ≡ None → slice_index_or new number None ≡ slice_index_or old number None
  pub others : (other : ℕ) → (other ≡ number → ⊥) → slice_index_or new other None ≡ slice_index_or old other None

-- the store of each waiting state was purged and keeps the keys of its instances alone, and all others are the same
pub record AreAllPurged (net : Net) (time : ℕ) (old new : List (Option Store)) : Type 0 where
  pub same : SameShapes old new
  pub purged : (number : ℕ) (wait : Wait) → wait_at net number ≡ Some wait → IsLeftAt net time number (slice_index_or old number None) (held new number)
  pub used : (number : ℕ) (wait : Wait) → wait_at net number ≡ Some wait → AreUsedIn (slice_index_or new number None)
  pub stay : StayReady old new
  pub others : (number : ℕ) → wait_at net number ≡ None → slice_index_or new number None ≡ slice_index_or old number None
