-- The attributes that the aggregates of a FOLD assign, and their first fault.
use Rattle.std.specs.Prelude.{◌≡◌, ◌≢◌, Bool, true, false, ℕ, ◌==◌, if◌then◌else◌, List, [], ◌∷◌, ◌++◌, length, map, Some, None}
use Rattle.std.specs.List.{list_any, range_with_len}
use Rattle.std.specs.Str.{bytes_eq}
use Rattle.event_types.specs.declared.kind.Kind.{Kind}
use Rattle.semantics.specs.Scalars.{Sc, Binding}
use Rattle.stream_schema.specs.Schema.{Attr, place_of}
use Rattle.cel_grammar.specs.Trees.{Scalar, Agg, Set}
use Rattle.cel_types.specs.declared.fault.TypeFault.{TypeFault}
use Rattle.cel_types.specs.declared.fault.TypeFault.TheVariants.{NotAssignable, DuplicateAttr, KindMismatch}
use Rattle.cel_types.specs.Scopes.{Iteration, named}
use Rattle.cel_types.specs.Scalars.{IsOf, HasFault}

-- an assignment: the place of an attribute of the binding, and the term that it takes
pub record Assignment : Type 0 where
  pub place : ℕ
  pub term : Sc

-- the binding has an attribute of this name at this place and of this kind
abbrev pub IsAttributeAt : List Attr → List ℕ → ℕ → Kind → Type 0
IsAttributeAt binding name place kind = named Binding binding name ≡ Some (record { term = Binding place; kind = kind })

-- the name is among those
abbrev pub is_among : List (List ℕ) → List ℕ → Bool
is_among names name = list_any (bytes_eq name) names

-- over a binding and an event, behind aggregates of these names, the aggregates assign so: to attributes of the binding, each once, terms of their kinds
pub data Assign (binding event : List Attr) : List (List ℕ) → List Agg → List Assignment → Type 0 where
  none : {names : List (List ℕ)} → Assign binding event names [] []
  set : {names : List (List ℕ)} {x : Scalar} {a : List ℕ} {aggs : List Agg} {place : ℕ} {s : Sc} {k : Kind} {more : List Assignment}
      → IsAttributeAt binding a place k → is_among names a ≡ false → IsOf (Iteration binding event) x s k → Assign binding event (names ++ a ∷ []) aggs more
      → Assign binding event names (Set x a ∷ aggs) (record { place = place; term = s } ∷ more)

-- the first fault of the aggregates: of each that the binding hasn't the name, that an earlier one has it, its scalar's, then that the kinds differ
pub data FailToAssign (binding event : List Attr) : List (List ℕ) → List Agg → TypeFault → Type 0 where
  absent : {names : List (List ℕ)} {x : Scalar} {a : List ℕ} {aggs : List Agg} → place_of a binding ≡ None → FailToAssign binding event names (Set x a ∷ aggs) (NotAssignable a)
  twice : {names : List (List ℕ)} {x : Scalar} {a : List ℕ} {aggs : List Agg} {place : ℕ} {k : Kind} → IsAttributeAt binding a place k → is_among names a ≡ true → FailToAssign binding event names (Set x a ∷ aggs) (DuplicateAttr a)
  scalar : {names : List (List ℕ)} {x : Scalar} {a : List ℕ} {aggs : List Agg} {place : ℕ} {k : Kind} {f : TypeFault} → IsAttributeAt binding a place k → is_among names a ≡ false → HasFault (Iteration binding event) x f → FailToAssign binding event names (Set x a ∷ aggs) f
  kinds : {names : List (List ℕ)} {x : Scalar} {a : List ℕ} {aggs : List Agg} {place : ℕ} {s : Sc} {k l : Kind} → IsAttributeAt binding a place k → is_among names a ≡ false → IsOf (Iteration binding event) x s l → k ≢ l → FailToAssign binding event names (Set x a ∷ aggs) (KindMismatch k l)
  then : {names : List (List ℕ)} {x : Scalar} {a : List ℕ} {aggs : List Agg} {place : ℕ} {s : Sc} {k : Kind} {f : TypeFault}
      → IsAttributeAt binding a place k → is_among names a ≡ false → IsOf (Iteration binding event) x s k → FailToAssign binding event (names ++ a ∷ []) aggs f → FailToAssign binding event names (Set x a ∷ aggs) f

-- the term at a place of the new binding: the one that is assigned, else the old binding's value
abbrev pub assigned : List Assignment → ℕ → Sc
assigned [] place = Binding place
assigned (one ∷ more) place = if one.place == place then one.term else assigned more place

-- the terms of the new binding, in order
abbrev pub rebinding : List Attr → List Assignment → List Sc
rebinding binding assignments = map (assigned assignments) (range_with_len 0 (length binding))
