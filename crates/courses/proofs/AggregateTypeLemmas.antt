-- What aggregates are computed to assign is what the rules assign, and so is their first fault.
use Rattle.std.proofs.Common.{◌≡◌, ℕ, false, List, [], ◌∷◌, ◌++◌, Ok, Err, Some, None, refl, sym, ap, subst}
use Rattle.std.specs.Prelude.{Option, Result}
use Rattle.std.proofs.lemmas.Bool.{cond_both}
use Rattle.semantics.specs.Scalars.{Binding}
use Rattle.stream_schema.specs.Schema.{Attr, place_of}
use Rattle.cel_grammar.specs.Trees.{Agg, Scalar}
use Rattle.cel_grammar.specs.Trees as tree
use Rattle.cel_types.specs.declared.fault.TypeFault.{TypeFault}
use Rattle.cel_types.specs.declared.fault.TypeFault.TheVariants.{DuplicateAttr, KindMismatch}
use Rattle.cel_types.specs.Aggregates.{Assign, Assignment, FailToAssign, IsAttributeAt, is_among}
use Rattle.cel_types.specs.Aggregates as aggs
use Rattle.cel_types.specs.Scalars.{HasFault, IsOf}
use Rattle.cel_types.specs.Scopes.{Iteration, Typed, at_place}
use Rattle.cel_types.specs.Unions.{is_kind}
use Rattle.catalogue.specs.Faults as told
use Rattle.courses.specs.AggregateTypes.{aggregates_type, assigned_place, assignment_type, kind_at}
use Rattle.courses.specs.ScalarTypes.{scalar_type}
use Rattle.courses.proofs.FoundLemmas.{IsFound, found-then}
use Rattle.courses.proofs.ScalarTypeLemmas.{HasType, kinds-differ, kinds-same, scalar-typed}

-- what is found of aggregates is so
abbrev AreFound : List Attr → List Attr → List (List ℕ) → List Agg → Result (List Assignment) TypeFault → Type 0
AreFound binding event names list = IsFound (Assign binding event names list) (FailToAssign binding event names list)

module _ (binding event : List Attr) (names : List (List ℕ)) (x : Scalar) (a : List ℕ) (list : List Agg) where
  abbrev AssignsAll : List Assignment → Type 0
  AssignsAll = Assign binding event names (tree.Set x a ∷ list)

  abbrev FailsAll : TypeFault → Type 0
  FailsAll = FailToAssign binding event names (tree.Set x a ∷ list)

  -- the attribute stands at this place, and no earlier aggregate assigns it
  abbrev IsPlace : ℕ → Type 0
  IsPlace place = IsAttributeAt binding a place (kind_at binding place) × (is_among names a ≡ false)

  place-typed : (found : Option ℕ) → place_of a binding ≡ found → IsFound IsPlace FailsAll (assigned_place names a found)
  place-typed None is = (aggs.absent is, told.absent)
  place-typed (Some place) is =
      let at : IsAttributeAt binding a place (kind_at binding place) = ap (at_place Binding binding) is in
      cond_both (is_among names a) (Err (DuplicateAttr a)) (Ok place) (IsFound IsPlace FailsAll) (λ there. (aggs.twice at there, told.twice)) (λ new. (at, new))

  module _ (place : ℕ) (is_place : IsPlace place) where
    -- the first assignment is this one
    abbrev IsFirst : Assignment → Type 0
    IsFirst first = (first.place ≡ place) × IsOf (Iteration binding event) x first.term (kind_at binding place)

    first-typed : (one : Typed) → HasType (Iteration binding event) x one → IsFound IsFirst FailsAll (assignment_type binding place one)
    first-typed one is = cond_both (is_kind (kind_at binding place) one.kind) (Ok (record { place = place; term = one.term })) (Err (KindMismatch (kind_at binding place) one.kind)) (IsFound IsFirst FailsAll)
        (λ e. (refl, subst (λ k. IsOf (Iteration binding event) x one.term k) (sym (kinds-same (kind_at binding place) one.kind e)) is))
        (λ e. (aggs.kinds is_place.0 is_place.1 is (kinds-differ (kind_at binding place) one.kind e), told.kinds))

    all-assigned : (first : Assignment) (more : List Assignment) → IsFirst first → Assign binding event (names ++ a ∷ []) list more → AssignsAll (first ∷ more)
    all-assigned first more is assigns = subst (λ n. AssignsAll (record { place = n; term = first.term } ∷ more)) (sym is.0) (aggs.set is_place.0 is_place.1 is.1 assigns)

  set-typed : AreFound binding event (names ++ a ∷ []) list (aggregates_type binding event (names ++ a ∷ []) list) → AreFound binding event names (tree.Set x a ∷ list) (aggregates_type binding event names (tree.Set x a ∷ list))
  set-typed rest =
      found-then IsPlace FailsAll AssignsAll FailsAll (assigned_place names a (place_of a binding)) _ (place-typed (place_of a binding) refl) (λ why fails. fails)
      (λ place at. found-then (HasType (Iteration binding event) x) (HasFault (Iteration binding event) x) AssignsAll FailsAll (scalar_type (Iteration binding event) x) _ (scalar-typed (Iteration binding event) x) (λ why fails. aggs.scalar at.0 at.1 fails)
      (λ one is. found-then (IsFirst place at) FailsAll AssignsAll FailsAll (assignment_type binding place one) _ (first-typed place at one is) (λ why fails. fails)
      (λ first is_first. found-then (Assign binding event (names ++ a ∷ []) list) (FailToAssign binding event (names ++ a ∷ []) list) AssignsAll FailsAll (aggregates_type binding event (names ++ a ∷ []) list) _ rest (λ why fails. aggs.then at.0 at.1 is_first.1 fails)
      (λ more assigns. all-assigned place at first more is_first assigns))))

-- by induction on the aggregates
pub aggregates-typed : (binding event : List Attr) (names : List (List ℕ)) (list : List Agg) → IsFound (Assign binding event names list) (FailToAssign binding event names list) (aggregates_type binding event names list)
aggregates-typed binding event names [] = aggs.none
aggregates-typed binding event names (tree.Set x a ∷ list) = set-typed binding event names x a list (aggregates-typed binding event (names ++ a ∷ []) list)
