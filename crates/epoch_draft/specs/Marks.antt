-- Numbers that are marked.
use Rattle.std.specs.Prelude.{◌≡◌, ℕ, Bool, ◌<◌, ◌++◌, ◌⊎◌, false, true, List, Contains, length, slice_index_or, take}
use Rattle.epoch_draft.specs.declared.marks.Marks.{Marks}

-- the marked numbers are exactly those that are listed, and each is listed once
pub record AreMarks (marks : Marks) : Type 0 where
  pub listed : (number : ℕ) → slice_index_or marks.flags number false ≡ true → Contains marks.numbers number
  pub flagged : (number : ℕ) → Contains marks.numbers number → slice_index_or marks.flags number false ≡ true
  pub once : (place : ℕ) → place < length marks.numbers → Contains (take place marks.numbers) (slice_index_or marks.numbers place 0) → ⊥

-- the same numbers are marked, and maybe more below the same bound, which are listed behind them
pub record MarksMore (old new : Marks) : Type 0 where
  pub are : AreMarks new
  pub as_many : length new.flags ≡ length old.flags
  pub added : List ℕ
  pub is : new.numbers ≡ old.numbers ++ added

-- no number but this is newly marked
abbrev pub MarksNoOther : ℕ → Marks → Marks → Type 0
MarksNoOther number old new = (other : ℕ) → Contains new.numbers other → Contains old.numbers other ⊎ (other ≡ number)

-- the flags of these numbers are down, and no other was put up
pub record AreLowered (numbers : List ℕ) (old new : List Bool) : Type 0 where
  pub as_many : length new ≡ length old
  pub raised : (number : ℕ) → slice_index_or new number false ≡ true → (slice_index_or old number false ≡ true) × (Contains numbers number → ⊥)
