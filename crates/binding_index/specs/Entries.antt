-- Lists of items that are kept by key.
use Rattle.std.specs.Prelude.{◌≡◌, ℕ, Some, slice_get, Bool, true, false, List, [], ◌∷◌}
use Rattle.std.specs.Option.{unwrap_or}
use Rattle.std.specs.Map.{lookup}
use Rattle.event_types.specs.declared.value.Value.{Value}
use Rattle.binding_index.specs.Among.{is_key}

-- what is kept under a key stands at a place
abbrev pub IsKeptAt : {V : Type 0} → List (Value × V) → Value → ℕ → Type 0
IsKeptAt {V} entries key place = (kept : V) × (slice_get entries place ≡ Some (key, kept)) × (lookup (is_key key) entries ≡ Some kept)

-- what is kept under a key
abbrev pub items_at : {Y : Type 0} → List (Value × List Y) → Value → List Y
items_at entries key = unwrap_or (lookup (is_key key) entries) []

-- whether there is an item
abbrev pub has_any : {X : Type 0} → List X → Bool
has_any [] = false
has_any (x ∷ xs) = true

-- whether there is an item under a key
abbrev pub is_filled : {Y : Type 0} → Value × List Y → Bool
is_filled entry = has_any entry.1
