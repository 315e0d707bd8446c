-- The states to which keys lead, by stream and attribute.
use Rattle.std.specs.Prelude.{◌≡◌, ℕ, ◌⊎◌, true, List, [], Option, slice_index_or}
use Rattle.event_types.specs.declared.value.Value.{Value}
use Rattle.binding_index.specs.Leads.{Entries, Leads, is_ready_at}
use Rattle.binding_index.specs.declared.store.Store.{Store}

-- for each stream, by its number, and each attribute of its tuples, by its place: the keys there, each with the states to which it leads
abbrev pub KeyTable : Type 0
KeyTable = List (List Entries)

-- the keys at an attribute of a stream, each with the states to which it leads
abbrev pub entries_at : KeyTable → ℕ → ℕ → Entries
entries_at table stream attribute = slice_index_or (slice_index_or table stream []) attribute []

-- each key leads where it led, and maybe elsewhere
abbrev pub LeadOn : KeyTable → KeyTable → Type 0
LeadOn old new = (stream attribute : ℕ) (key : Value) (number : ℕ) → Leads (entries_at old stream attribute) key number → Leads (entries_at new stream attribute) key number

-- a key at an attribute of a stream leads to a state besides, and all else is the same
pub record IsNoted (stream attribute : ℕ) (key : Value) (state : ℕ) (old new : KeyTable) : Type 0 where
  pub leads : Leads (entries_at new stream attribute) key state
  pub kept : LeadOn old new
  pub only : (one at : ℕ) (other : Value) (number : ℕ) → Leads (entries_at new one at) other number
      → Leads (entries_at old one at) other number ⊎ ((stream ≡ one) × (attribute ≡ at) × (key ≡ other) × (state ≡ number))

-- each key leads where it led
abbrev pub LeadSame : KeyTable → KeyTable → Type 0
LeadSame old new = (stream attribute : ℕ) → entries_at new stream attribute ≡ entries_at old stream attribute

-- each key that is ready in a state's store leads there if it did, and no key leads where it didn't
pub record AreTidied (stores : List (Option Store)) (old new : KeyTable) : Type 0 where
  pub kept : (stream attribute : ℕ) (key : Value) (number : ℕ) → is_ready_at stores number key ≡ true → Leads (entries_at old stream attribute) key number → Leads (entries_at new stream attribute) key number
  pub only : LeadOn new old
