-- Stores and tuples that a network may take up.
use Rattle.std.specs.Prelude.{◌≡◌, ℕ, List, length, Option, Some, None, slice_get, slice_index_or}
use Rattle.std.specs.List.{All}
use Rattle.event_types.specs.declared.kind.Kind.{Kind}
use Rattle.binding_index.specs.KeyParts.{first_key}
use Rattle.binding_index.specs.Stores.{condition_of, instances_of, key_of}
use Rattle.binding_index.specs.declared.store.Store.{Store}
use Rattle.semantics.specs.Denotation.{Streams}
use Rattle.semantics.specs.Kinds.{HasKinds}
use Rattle.automaton.specs.States.{Net, wait_at}
use Rattle.automaton.specs.declared.wait.Wait.{Wait}
use Rattle.epoch_draft.specs.Kindings.{Kinding, StatesFit}

-- a store that is made for a wait, and whose bindings have these kinds
pub record IsStoreOf (wait : Wait) (kinds : List Kind) (store : Store) : Type 0 where
  pub condition : condition_of store ≡ wait.choose
  pub key : key_of store ≡ first_key wait.choose
  pub instances : All (λ instance. HasKinds kinds instance.tuple) (instances_of store)

-- over streams of these kinds the network is typed, each waiting state has its store, and no other state has one
pub record IsTyped (net : Net) (kinds : List (List Kind)) (stores : List (Option Store)) : Type 0 where
  pub kinding : Kinding
  pub states : StatesFit kinds net kinding
  pub as_many : length stores ≡ length net
  pub has_stores : (number : ℕ) (wait : Wait) → wait_at net number ≡ Some wait → (store : Store) × (slice_index_or stores number None ≡ Some store) × IsStoreOf wait (kinding.waiting number) store
  pub others : (number : ℕ) → wait_at net number ≡ None → slice_index_or stores number None ≡ None

-- the tuples of each stream have its kinds
abbrev pub HaveKinds : List (List Kind) → Streams → Type 0
HaveKinds kinds streams = (stream : ℕ) (known : List Kind) → slice_get kinds stream ≡ Some known → All (HasKinds known) (streams stream)
