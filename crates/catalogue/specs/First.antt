-- The first statement of a file that has a fault.
use Rattle.std.specs.Prelude.{◌≡◌, ◌<◌, ℕ, List, Option, Some, None, slice_get}
use Rattle.catalogue.specs.declared.fault.QueryFault.{QueryFault}

-- none of the first so many statements has a fault
abbrev pub HaveNone : (ℕ → Option QueryFault) → ℕ → Type 0
HaveNone fault_at many = (place : ℕ) → place < many → fault_at place ≡ None

-- the first statement that has a fault has this one, and begins on this line
pub record IsFirst (fault_at : ℕ → Option QueryFault) (lines : List ℕ) (line : ℕ) (why : QueryFault) : Type 0 where
  pub place : ℕ
  pub on_line : slice_get lines place ≡ Some line
  pub has : fault_at place ≡ Some why
  pub none_before : HaveNone fault_at place
