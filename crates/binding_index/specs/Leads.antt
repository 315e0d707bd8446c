-- The states to which a key leads.
use Rattle.std.specs.Prelude.{ℕ, ◌≢◌, All, AllPairs, Bool, List, [], Option, Some, None, Contains, length, flat_map, slice_index_or}
use Rattle.event_types.specs.declared.value.Value.{Value}
use Rattle.binding_index.specs.Among.{is_among}
use Rattle.binding_index.specs.Entries.{items_at}
use Rattle.binding_index.specs.Stores.{ready_of}
use Rattle.binding_index.specs.declared.store.Store.{Store}

-- keys, each with the numbers of the states to which it leads
abbrev pub Entries : Type 0
Entries = List (Value × List ℕ)

-- the numbers of the states to which a key leads
abbrev pub states_at : Entries → Value → List ℕ
states_at entries key = items_at entries key

-- how many pairs there are of a key and a state to which it leads
abbrev pub pairs_of : Entries → ℕ
pairs_of entries = length (flat_map (λ entry. entry.1) entries)

-- no state stands twice under a key
abbrev pub StandOnce : Entries → Type 0
StandOnce entries = All (λ entry. AllPairs (λ state other. state ≢ other) entry.1) entries

-- a key leads to a state
abbrev pub Leads : Entries → Value → ℕ → Type 0
Leads entries key number = Contains (states_at entries key) number

-- the keys that are ready in a store, where there is one
abbrev pub ready_in : Option Store → List Value
ready_in None = []
ready_in (Some store) = ready_of store

-- whether a key is ready in the store of a state
abbrev pub is_ready_at : List (Option Store) → ℕ → Value → Bool
is_ready_at stores number key = is_among key (ready_in (slice_index_or stores number None))
