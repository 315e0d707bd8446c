-- Keys that lead to the states where they are ready.
use Rattle.std.specs.Prelude.{◌≡◌, ℕ, List, Option, Some, None, Contains, slice_index_or}
use Rattle.std.specs.List.{All}
use Rattle.event_types.specs.declared.value.Value.{Value}
use Rattle.instances.specs.Keys.{IsKeyReady, Key}
use Rattle.automaton.specs.States.{Net, wait_at}
use Rattle.automaton.specs.declared.wait.Wait.{Wait}
use Rattle.binding_index.specs.Leads.{Leads, ready_in}
use Rattle.binding_index.specs.declared.store.Store.{Store}
use Rattle.stream_readers.specs.KeyTables.{KeyTable, entries_at}
use Rattle.stream_readers.specs.Leading.{lead_key, lead_key_at}
use Rattle.epoch_draft.specs.Held.{instances_in, key_in}

-- the key of each instance of a state's store is ready there
abbrev pub AreReadyIn : Option Store → Type 0
AreReadyIn slot = All (λ instance. IsKeyReady (key_in slot) (ready_in slot) instance.tuple) (instances_in slot)

-- no more keys are ready in a store than were, and the keys of its instances are ready if they were
pub record StaysReady (old new : Option Store) : Type 0 where
  pub instances : AreReadyIn old → AreReadyIn new
  pub keys : (key : Value) → Contains (ready_in new) key → Contains (ready_in old) key

-- the same of each store
abbrev pub StayReady : List (Option Store) → List (Option Store) → Type 0
StayReady old new = (number : ℕ) → StaysReady (slice_index_or old number None) (slice_index_or new number None)

-- each of these keys leads to the state with a number, if the state is found by a key
abbrev pub LeadBy : Net → KeyTable → ℕ → List Value → Type 0
LeadBy net keys number ready =
    (wait : Wait) (key : Key) → wait_at net number ≡ Some wait → lead_key wait.choose ≡ Some key → All (λ value. Leads (entries_at keys wait.stream key.event) value number) ready

-- each key that is ready in the store of a state leads there, if the state is found by a key
abbrev pub LeadTo : Net → KeyTable → ℕ → Option Store → Type 0
LeadTo net keys number slot = LeadBy net keys number (ready_in slot)

-- a key that is ready in the store of a state leads there, if the state is found by a key; and the key of each instance is ready
pub record AreLed (net : Net) (keys : KeyTable) (stores : List (Option Store)) : Type 0 where
  pub led : (number : ℕ) → LeadTo net keys number (slice_index_or stores number None)
  pub ready : (number : ℕ) → AreReadyIn (slice_index_or stores number None)

-- the key of a store is that by which a state is found, if it is found by one
abbrev pub HasKeyOf : Net → ℕ → Option Key → Type 0
HasKeyOf net number found = (key : Key) → lead_key_at net number ≡ Some key → found ≡ Some key
