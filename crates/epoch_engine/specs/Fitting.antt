-- Stores that are made to fit a network. No public clause cites this module.
use Rattle.std.specs.Prelude.{◌≡◌, ⊤, ◌≤◌, ◌⊎◌, ℕ, Contains, if◌then◌else◌, List, [], length, Option, Some, None, is_some, slice_index_or}
use Rattle.std.specs.Option.{option_map}
use Rattle.binding_index.specs.Leads.{ready_in}
use Rattle.binding_index.specs.declared.store.Store.{Store}
use Rattle.automaton.specs.States.{Net, wait_at}
use Rattle.automaton.specs.declared.wait.Wait.{Wait}
use Rattle.epoch_draft.specs.Held.{instances_in, shape_for, shape_of}

-- an empty store that is made for a wait, or none where no state waits
pub record IsEmptyFor (wait : Option Wait) (slot : Option Store) : Type 0 where
  pub shape : shape_of slot ≡ option_map (λ w. shape_for w.choose) wait
  pub empty : instances_in slot ≡ []
  pub none_ready : ready_in slot ≡ []

-- a store that was there is the same, and where none was is an empty one for the wait
abbrev pub IsGrownSlot : Option Wait → Option Store → Option Store → Type 0
IsGrownSlot wait (Some store) new = new ≡ Some store
IsGrownSlot wait None new = IsEmptyFor wait new

-- each waiting state has its store, an empty one where it had none
pub record AreGrown (net : Net) (old new : List (Option Store)) : Type 0 where
  pub as_many : length new ≡ length net
  pub each : (number : ℕ) → IsGrownSlot (wait_at net number) (slice_index_or old number None) (slice_index_or new number None)

-- a store that was there is the same
abbrev pub IsKeptSlot : Option Store → Option Store → Type 0
IsKeptSlot (Some store) new = new ≡ Some store
IsKeptSlot None new = ⊤

-- the stores that were there are the same, and maybe there are some more
pub record KeepStores (net : Net) (old new : List (Option Store)) : Type 0 where
  pub longer : length old ≤ length new
  pub within : length new ≤ length net
  pub each : (number : ℕ) → IsKeptSlot (slice_index_or old number None) (slice_index_or new number None)

-- there are more places, up to so many, without stores in them
pub record IsPadded (places : ℕ) (old new : List (Option Store)) : Type 0 where
  pub longer : length old ≤ length new
  pub within : length new ≤ places
  pub same : (number : ℕ) → slice_index_or new number None ≡ slice_index_or old number None

-- the stores of waiting states are left, and no others
pub record AreLeft (net : Net) (old new : List (Option Store)) : Type 0 where
  pub as_many : length new ≡ length net
  pub each : (number : ℕ) → slice_index_or new number None ≡ (if is_some (wait_at net number) then slice_index_or old number None else None)

-- each waiting state has a store, but for some of these
abbrev pub HaveStoresBut : Net → List ℕ → List (Option Store) → Type 0
HaveStoresBut net states stores = (number : ℕ) (wait : Wait) → wait_at net number ≡ Some wait → slice_index_or stores number None ≡ None → Contains states number

-- where no state waits there is no store, but for some of these
abbrev pub HaveNoStoresBut : Net → List ℕ → List (Option Store) → Type 0
HaveNoStoresBut net states stores = (number : ℕ) → wait_at net number ≡ None → (slice_index_or stores number None ≡ None) ⊎ Contains states number
