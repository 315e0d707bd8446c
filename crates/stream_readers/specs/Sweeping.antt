-- Directories that are swept. No public clause cites this module.
use Rattle.std.specs.Prelude.{◌≡◌, ◌↔◌, ℕ, true, List, Option}
use Rattle.event_types.specs.declared.value.Value.{Value}
use Rattle.binding_index.specs.Leads.{Entries, Leads, is_ready_at}
use Rattle.binding_index.specs.declared.store.Store.{Store}

-- keys lead exactly to those states where they led and are ready
abbrev pub IsSwept : List (Option Store) → Entries → Entries → Type 0
IsSwept stores old new = (key : Value) (number : ℕ) → Leads new key number ↔ (Leads old key number × (is_ready_at stores number key ≡ true))
