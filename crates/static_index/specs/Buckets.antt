-- Ids in buckets by a literal. No public clause cites it.
use Rattle.std.specs.Prelude.{◌≡◌, ◌≢◌, ◌⊎◌, ℕ, ℤ, Bool, true, List, [], Option, Contains, if◌then◌else◌}
use Rattle.std.specs.declared.cmp.Ordering.{Ordering}
use Rattle.std.specs.Ordering.{eq_by_cmp, int_cmp}
use Rattle.std.specs.BTreeMap as tree
use Rattle.std.specs.HashMap as hash
use Rattle.std.specs.BTreeMap.{BTreeMap}
use Rattle.std.specs.HashMap.{HashMap}
use denote.Bor.{Bor}
use Rattle.std.specs.Bound.{bound_map}
use Rattle.std.specs.Option.{unwrap_or}
use Rattle.std.specs.List.{flat_map}
use Rattle.std.specs.BTreeMap.Range.{entries_between}
use Rattle.std.specs.declared.ops.Bound.{Bound}
use Rattle.event_types.specs.declared.comparison.Cmp.{Cmp}
use Rattle.event_types.specs.declared.value.Value.{Value}
use Rattle.event_types.specs.Order.{value_cmp}
use Rattle.semantics.specs.Truth.{is_met, order_of}

-- each id of the one list is in the other
abbrev pub KeepsIds : List ℕ → List ℕ → Type 0
KeepsIds old new = (n : ℕ) → Contains old n → Contains new n

-- the same of each id but one
abbrev pub KeepsOtherIds : ℕ → List ℕ → List ℕ → Type 0
KeepsOtherIds id old new = (n : ℕ) → n ≢ id → Contains old n → Contains new n

-- whether two literals are one, as the program tests it
abbrev pub equals : Value → Value → Bool
equals = eq_by_cmp value_cmp

-- the order of two literals, as the program tests it
abbrev pub ordered : Value → Value → Ordering
ordered = value_cmp

-- the ids in the bucket of a literal, if it has one
abbrev pub ids_in : Option (List ℕ) → List ℕ
ids_in found = unwrap_or found []

-- the ids of a literal that is found by its hash
abbrev pub hashed_ids : {S : Type 0} → HashMap Value (List ℕ) S → Value → List ℕ
hashed_ids buckets lit = ids_in (hash.get equals buckets lit)

-- the ids of a literal that is found by its place in the order
abbrev pub ordered_ids : BTreeMap Value (List ℕ) → Value → List ℕ
ordered_ids buckets lit = ids_in (tree.get ordered buckets lit)

-- an id is in the bucket of a literal with which a value meets a comparison
abbrev pub IsAmongMet : Cmp → Value → List (Value × List ℕ) → ℕ → Type 0
IsAmongMet cmp value buckets n = (bucket : Value × List ℕ) × Contains buckets bucket × (is_met cmp (order_of value bucket.0) ≡ true) × Contains bucket.1 n

-- each id of a literal with which a value meets a comparison is found
abbrev pub FindsMet : Cmp → Value → BTreeMap Value (List ℕ) → List ℕ → Type 0
FindsMet cmp value buckets found = (lit : Value) (n : ℕ) → is_met cmp (order_of value lit) ≡ true → Contains (ordered_ids buckets lit) n → Contains found n

-- an id that is found was there, or is in the bucket of a literal with which a value meets a comparison
abbrev pub FindsOnlyMet : Cmp → Value → BTreeMap Value (List ℕ) → List ℕ → List ℕ → Type 0
FindsOnlyMet cmp value buckets old new = (n : ℕ) → Contains new n → Contains old n ⊎ IsAmongMet cmp value buckets.entries n

-- a bound that is looked at in place
abbrev pub seen_bound : {K : Type 0} → Bound (Bor K) → Bound K
seen_bound bound = bound_map (λ x. x.now) bound

-- the ids of a number that is found by its place in the order
abbrev pub numbered_ids : BTreeMap ℤ (List ℕ) → ℤ → List ℕ
numbered_ids buckets number = ids_in (tree.get int_cmp buckets number)

-- the ids of the numbers between two bounds, by ascending numbers
abbrev pub ids_between : Bound ℤ → Bound ℤ → BTreeMap ℤ (List ℕ) → List ℕ
ids_between low high buckets = flat_map (λ e. e.1) (entries_between int_cmp low high buckets.entries)

-- the ids of a literal with which a value meets a comparison, and none of any other
abbrev pub ids_if_met : Cmp → Value → Value × List ℕ → List ℕ
ids_if_met cmp value bucket = if is_met cmp (order_of value bucket.0) then bucket.1 else []

-- the ids of such literals between two bounds, by ascending literals
abbrev pub met_ids_between : Cmp → Value → Bound Value → Bound Value → BTreeMap Value (List ℕ) → List ℕ
met_ids_between cmp value low high buckets = flat_map (ids_if_met cmp value) (entries_between ordered low high buckets.entries)
