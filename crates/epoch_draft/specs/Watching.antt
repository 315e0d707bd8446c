-- Deadlines until which nothing in a store expires.
use Rattle.std.specs.Prelude.{◌≡◌, ◌≢◌, ℕ, ◌<◌, List, length, Option, None, slice_index, slice_index_or}
use Rattle.semantics.specs.Scalars.{Pr}
use Rattle.instances.specs.Bounds.{alive_instances}
use Rattle.instances.specs.declared.instance.Instance.{Instance}
use Rattle.binding_index.specs.declared.store.Store.{Store}
use Rattle.epoch_draft.specs.Held.{SameShapes, held, instances_in}
use Rattle.epoch_draft.specs.Led.{StayReady}
use Rattle.epoch_draft.specs.Purging.{alive_in}

-- each instance of a state's store is alive at every time before a deadline
abbrev pub IsWatched : ℕ → Option Store → Type 0
IsWatched deadline slot = (time : ℕ) → time < deadline → alive_in time slot ≡ instances_in slot

-- a deadline was lowered only to a time at which one of these instances is alive no more
abbrev pub IsNeeded : ℕ → ℕ → List Pr → List Instance → Type 0
IsNeeded old new choose instances = new < old → alive_instances new choose instances ≢ instances

-- each state has a deadline, until which the instances of its store are alive
pub record Watches (deadlines : List ℕ) (stores : List (Option Store)) : Type 0 where
  pub as_many : length deadlines ≡ length stores
  pub watched : (number : ℕ) → IsWatched (slice_index deadlines number) (slice_index_or stores number None)

-- each store has those of its instances that are alive at a time, and the keys that are ready are as after a purge
pub record ArePurgedEach (time : ℕ) (old new : List (Option Store)) : Type 0 where
  pub same : SameShapes old new
  pub purged : (number : ℕ) → held new number ≡ alive_in time (slice_index_or old number None)
  pub stay : StayReady old new
