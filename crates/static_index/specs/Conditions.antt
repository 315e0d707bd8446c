-- The conditions of an index, by ascending ids.
use Rattle.std.specs.Prelude.{ℕ, not, ◌==◌, nat_lt, if◌then◌else◌, List, [], ◌∷◌, map, Contains}
use Rattle.std.specs.List.{filter}
use Rattle.std.specs.Ordering.{nat_cmp}
use Rattle.std.specs.List.Sorted.{IsStrictlySortedBy}
use Rattle.event_types.specs.Tuple.{TupleView}
use Rattle.static_index.specs.declared.fixed_part.FixedPart.{FixedPart}
use Rattle.static_index.specs.FixedParts.{all_hold, first_holds}

-- a condition of an index: its id and its fixed parts
pub record Condition : Type 0 where
  pub id : ℕ
  pub parts : List FixedPart

-- the ids of the conditions
abbrev pub ids_of : List Condition → List ℕ
ids_of conditions = map (λ condition. condition.id) conditions

-- a condition has the id
abbrev pub HasId : ℕ → List Condition → Type 0
HasId id conditions = Contains (ids_of conditions) id

-- the ids ascend, so each stands once
abbrev pub Ascends : List ℕ → Type 0
Ascends ids = IsStrictlySortedBy nat_cmp ids

-- the ids of the conditions whose first fixed part holds for an event, or that have none
abbrev pub looked_up : TupleView → List Condition → List ℕ
looked_up event conditions = ids_of (filter (λ condition. first_holds event condition.parts) conditions)

-- the ids of the conditions whose fixed parts all hold for an event
abbrev pub matched : TupleView → List Condition → List ℕ
matched event conditions = ids_of (filter (λ condition. all_hold event condition.parts) conditions)

-- the conditions with one more, which stands before the first of a greater id
abbrev pub with_condition : Condition → List Condition → List Condition
with_condition condition [] = condition ∷ []
with_condition condition (first ∷ rest) = if nat_lt condition.id first.id then condition ∷ first ∷ rest else first ∷ with_condition condition rest

-- the conditions without that of an id
abbrev pub without : ℕ → List Condition → List Condition
without id conditions = filter (λ condition. not (condition.id == id)) conditions
