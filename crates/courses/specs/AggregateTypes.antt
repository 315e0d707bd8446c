-- What the aggregates of a FOLD assign, or their first fault, by computing.
use Rattle.std.specs.Prelude.{ℕ, List, [], ◌∷◌, ◌++◌, Option, Some, None, Result, Ok, Err, slice_index_or, if◌then◌else◌}
use Rattle.event_types.specs.declared.kind.Kind.{Kind}
use Rattle.event_types.specs.declared.kind.Kind.TheVariants as kind
use Rattle.stream_schema.specs.Schema.{Attr, kinds_of, place_of}
use Rattle.cel_grammar.specs.Trees.{Agg, Set}
use Rattle.cel_types.specs.declared.fault.TypeFault.{TypeFault}
use Rattle.cel_types.specs.declared.fault.TypeFault.TheVariants.{DuplicateAttr, KindMismatch, NotAssignable}
use Rattle.cel_types.specs.Aggregates.{Assignment, is_among}
use Rattle.cel_types.specs.Scopes.{Iteration, Typed}
use Rattle.cel_types.specs.Unions.{is_kind}
use Rattle.courses.specs.FirstFault.{◌>>=◌}
use Rattle.courses.specs.ScalarTypes.{scalar_type}

-- the kind of the attribute at a place
abbrev pub kind_at : List Attr → ℕ → Kind
kind_at attrs place = slice_index_or (kinds_of attrs) place kind.Int

-- the place of the attribute that is assigned, which no earlier aggregate assigns
abbrev pub assigned_place : List (List ℕ) → List ℕ → Option ℕ → Result ℕ TypeFault
assigned_place names name None = Err (NotAssignable name)
assigned_place names name (Some place) = if is_among names name then Err (DuplicateAttr name) else Ok place

-- a scalar that is assigned to the attribute at a place, and is of its kind
abbrev pub assignment_type : List Attr → ℕ → Typed → Result Assignment TypeFault
assignment_type binding place one = if is_kind (kind_at binding place) one.kind then Ok (record { place = place; term = one.term }) else Err (KindMismatch (kind_at binding place) one.kind)

-- what aggregates assign over a binding and an event, behind aggregates of these names: of each first that the binding hasn't the name, then that an earlier one has it, then its scalar's fault, then that the kinds differ
abbrev pub aggregates_type : List Attr → List Attr → List (List ℕ) → List Agg → Result (List Assignment) TypeFault
aggregates_type binding event names [] = Ok []
aggregates_type binding event names (Set x a ∷ aggs) =
    assigned_place names a (place_of a binding) >>= λ place. scalar_type (Iteration binding event) x >>= λ one. assignment_type binding place one >>= λ first.
    aggregates_type binding event (names ++ a ∷ []) aggs >>= λ more. Ok (first ∷ more)
