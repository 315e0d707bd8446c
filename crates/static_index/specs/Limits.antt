-- Ids by a literal that bounds an attribute. No public clause cites it.
use Rattle.std.specs.Prelude.{◌≡◌, ◌⊎◌, ℕ, ℤ, true, List, Contains}
use Rattle.event_types.specs.declared.comparison.Cmp.{Cmp}
use Rattle.event_types.specs.declared.value.Value.{Value}
use Rattle.event_types.specs.declared.value.Value.TheVariants.{Int}
use Rattle.semantics.specs.Truth.{is_met, order_of}
use Rattle.static_index.specs.Buckets.{IsAmongMet, numbered_ids, ordered_ids}
use Rattle.static_index.specs.declared.limits.Limits.{Limits}

-- the ids of a literal: of a number among the numbers, of any other among the others
abbrev pub limit_ids : Limits → Value → List ℕ
limit_ids limits (Int number) = numbered_ids limits.numbers number
limit_ids limits lit = ordered_ids limits.others lit

-- each id of a literal with which a value meets a comparison is found
abbrev pub FindsReached : Cmp → Value → Limits → List ℕ → Type 0
FindsReached cmp value limits found = (lit : Value) (n : ℕ) → is_met cmp (order_of value lit) ≡ true → Contains (limit_ids limits lit) n → Contains found n

-- an id is in the bucket of a number with which a value meets a comparison
abbrev pub IsAmongNumbers : Cmp → Value → List (ℤ × List ℕ) → ℕ → Type 0
IsAmongNumbers cmp value buckets n = (bucket : ℤ × List ℕ) × Contains buckets bucket × (is_met cmp (order_of value (Int bucket.0)) ≡ true) × Contains bucket.1 n

-- an id that is found was there, or is in the bucket of a literal with which a value meets a comparison
abbrev pub FindsOnlyReached : Cmp → Value → Limits → List ℕ → List ℕ → Type 0
FindsOnlyReached cmp value limits old new = (n : ℕ) → Contains new n → Contains old n ⊎ (IsAmongNumbers cmp value limits.numbers.entries n ⊎ IsAmongMet cmp value limits.others.entries n)
