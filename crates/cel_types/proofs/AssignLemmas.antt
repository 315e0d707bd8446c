-- What aggregates assign, one behind the other.
use Rattle.std.proofs.Common.{◌≡◌, ◌∙◌, ℕ, List, [], ◌∷◌, ◌++◌, ◌||◌, zero, suc, Bool, true, false, map, refl, sym, ap, append_assoc}
use Rattle.std.specs.Prelude.{Some, slice_get, slice_set}
use Rattle.std.specs.Str.{bytes_eq}
use Rattle.std.proofs.lemmas.List.{append-nil}
use Rattle.std.proofs.lemmas.Option.{get_or_from_slice_get}
use Rattle.event_types.specs.declared.kind.Kind.{Kind}
use Rattle.event_types.specs.declared.kind.Kind.TheVariants.{Int}
use Rattle.semantics.specs.Scalars.{Sc, Binding}
use Rattle.stream_schema.specs.Schema.{Attr, kinds_of, place_of}
use Rattle.cel_grammar.specs.declared.source.Agg as code
use Rattle.cel_grammar.specs.Views.{agg_of}
use Rattle.cel_grammar.specs.Trees.{Scalar, Agg, Set}
use Rattle.cel_types.specs.declared.fault.TypeFault.{TypeFault}
use Rattle.cel_types.specs.Aggregates.{Assign, Assignment, IsAttributeAt, none, set, is_among, FailToAssign, absent, twice, scalar, kinds, then}
use Rattle.cel_types.specs.Assigning.{Assigns, names_in}
use Rattle.cel_types.specs.Scopes.{Typed, Iteration, at_place}
use Rattle.cel_types.specs.Scalars.{IsOf}

-- a test or one that is true
or-true : (b : Bool) → (b || true) ≡ true
or-true true = refl
or-true false = refl

-- the name of an aggregate is among those of all, by induction on its place
pub among-at : (aggs : List code.Agg) (i : ℕ) (agg : code.Agg) (name : List ℕ) → slice_get aggs i ≡ Some agg → bytes_eq name agg.name ≡ true → is_among (names_in (map agg_of aggs)) name ≡ true
among-at [] i agg name at same = cc
among-at (one ∷ aggs) zero agg name at same =
    let e : one ≡ agg = cc in rw (ap (λ (x : code.Agg). x.name) e, same) refl
among-at (one ∷ aggs) (suc i) agg name at same = rw (among-at aggs i agg name at same) (or-true (bytes_eq name one.name))

-- an attribute that is found, by its place and its kind
pub is_at : (binding : List Attr) (a : List ℕ) (place : ℕ) (k : Kind) → place_of a binding ≡ Some place → slice_get (kinds_of binding) place ≡ Some k → IsAttributeAt binding a place k
is_at binding a place k found there =
    ap (at_place Binding binding) found ∙ ap (λ (kind : Kind). let typed : Typed = record { term = Binding place; kind = kind } in Some typed) (get_or_from_slice_get (kinds_of binding) place k Int there)

module _ {binding event : List Attr} where
  -- aggregates behind aggregates
  pub assign-append : {names : List (List ℕ)} {aggs more : List Agg} {assignments others : List Assignment} → Assign binding event names aggs assignments → Assign binding event (names ++ names_in aggs) more others
      → Assign binding event names (aggs ++ more) (assignments ++ others)
  assign-append {names} none h = rw append-nil at h
  assign-append {names} (set {a = a} {aggs = aggs} at free is_of rest) h = set at free is_of (assign-append rest (rw (sym (append_assoc names (a ∷ []) (names_in aggs))) at h))

  -- a fault behind aggregates
  pub assign-fails : {names : List (List ℕ)} {aggs more : List Agg} {assignments : List Assignment} {f : TypeFault} → Assign binding event names aggs assignments → FailToAssign binding event (names ++ names_in aggs) more f
      → FailToAssign binding event names (aggs ++ more) f
  assign-fails {names} none h = rw append-nil at h
  assign-fails {names} (set {a = a} {aggs = aggs} at free is_of rest) h = then at free is_of (assign-fails rest (rw (sym (append_assoc names (a ∷ []) (names_in aggs))) at h))

  -- a fault before aggregates
  pub fails-before : {names : List (List ℕ)} {aggs : List Agg} {f : TypeFault} (more : List Agg) → FailToAssign binding event names aggs f → FailToAssign binding event names (aggs ++ more) f
  fails-before more (absent h) = absent h
  fails-before more (twice at taken) = twice at taken
  fails-before more (scalar at free h) = scalar at free h
  fails-before more (kinds at free is_of ne) = kinds at free is_of ne
  fails-before more (then at free is_of h) = then at free is_of (fails-before more h)

  -- one aggregate, whose term is put at its place
  pub assigns-one : {names : List (List ℕ)} {x : Scalar} {a : List ℕ} (place : ℕ) (s : Sc) (k : Kind) {before after : List Sc} → IsAttributeAt binding a place k → is_among names a ≡ false → IsOf (Iteration binding event) x s k
      → after ≡ slice_set before place s → Assigns binding event names (Set x a) before after
  assigns-one place s k at free is_of value = record { one = record { place = place; term = s }; assigns = set at free is_of none; terms = value }
