-- Stores of instances: what they may leave out, and what they have to keep.
use Rattle.std.specs.Prelude.{ℕ, List, ◌++◌, Option}
use Rattle.std.specs.List.Sorted.{IsPermutation}
use Rattle.instances.specs.Births.{began_after}
use Rattle.instances.specs.Bounds.{alive_instances}
use Rattle.instances.specs.declared.instance.Instance.{Instance}
use Rattle.semantics.specs.Scalars.{Pr}

-- as bags, the first list is within the second
abbrev pub IsWithin : {X : Type 0} → List X → List X → Type 0
IsWithin {X} xs ys = (rest : List X) × IsPermutation (xs ++ rest) ys

-- a store that was purged for a time and for the births of those that read it, in whole, in part or not at all, and in any order: it has each instance that is alive and began after one of these births
pub record Purged (time : ℕ) (IsRead : Option ℕ → Type 0) (choose : List Pr) (store kept : List Instance) : Type 0 where
  pub at_least : (birth : Option ℕ) → IsRead birth → IsWithin (alive_instances time choose (began_after birth store)) kept
  pub at_most : IsWithin kept store
