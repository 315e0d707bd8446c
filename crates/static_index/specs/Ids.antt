-- Ids in their order. No public clause cites it.
use Rattle.std.specs.Prelude.{◌≡◌, ℕ, ◌<◌, ◌≤◌, Box, List, [], length, Option, Some, None, Contains, slice_get}
use Rattle.std.specs.BTreeSet.{BTreeSet}
use Rattle.std.specs.declared.alloc.Global.{Global}
use Rattle.static_index.specs.Conditions.{Ascends}

-- the id stands at the place
abbrev pub HasAt : ℕ → List ℕ → ℕ → Type 0
HasAt id ids place = slice_get ids place ≡ Some id

-- the id is missing at the place: smaller ones stand before it, and greater ones from it on
pub record LacksAt (id : ℕ) (ids : List ℕ) (place : ℕ) : Type 0 where
  pub within : place ≤ length ids
  pub smaller_before : (k n : ℕ) → k < place → slice_get ids k ≡ Some n → n < id
  pub greater_after : (k n : ℕ) → place ≤ k → slice_get ids k ≡ Some n → id < n

-- the ids of a set, if there is one
abbrev pub ids_in_set : Option (Box (BTreeSet ℕ) Global) → List ℕ
ids_in_set None = []
ids_in_set (Some set) = set.value.keys

-- no more ids than may be moved stand in order, and none of them is among the many
pub record AreApart (few many : List ℕ) : Type 0 where
  pub within : length few ≤ 256
  pub ascend : Ascends few
  pub apart : (n : ℕ) → Contains few n → Contains many n → ⊥
