-- The stores of a network.
use Rattle.std.specs.Prelude.{◌≡◌, ℕ, List, [], length, Option, Some, None, slice_index_or}
use Rattle.binding_index.specs.declared.store.Store.{Store}
use Rattle.binding_index.specs.Leads.{ready_in}
use Rattle.automaton.specs.States.{Net, wait_at}
use Rattle.automaton.specs.declared.wait.Wait.{Wait}
use Rattle.epoch_draft.specs.Held.{instances_in, shape_for, shape_of}

-- each waiting state has a store that is made for its condition, and no other state has a store
pub record HasStores (net : Net) (stores : List (Option Store)) : Type 0 where
  pub as_many : length stores ≡ length net
  pub shapes : (number : ℕ) (wait : Wait) → wait_at net number ≡ Some wait → shape_of (slice_index_or stores number None) ≡ Some (shape_for wait.choose)
  pub others : (number : ℕ) → wait_at net number ≡ None → slice_index_or stores number None ≡ None

-- the stores have no instances, and no key is ready in them
pub record AreNewStores (net : Net) (stores : List (Option Store)) : Type 0 where
  pub has : HasStores net stores
  pub empty : (number : ℕ) → instances_in (slice_index_or stores number None) ≡ []
  pub none_ready : (number : ℕ) → ready_in (slice_index_or stores number None) ≡ []
