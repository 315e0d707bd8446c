-- Aggregates assign at most one list of terms, have at most one fault, and not both.
use Rattle.std.proofs.Common.{◌≡◌, ◌∙◌, ℕ, List, ◌∷◌, refl, sym, ap}
use Rattle.std.specs.Prelude.{Some, None}
use Rattle.event_types.specs.declared.kind.Kind.{Kind}
use Rattle.semantics.specs.Scalars.{Binding}
use Rattle.stream_schema.specs.Schema.{Attr, place_of}
use Rattle.cel_grammar.specs.Trees.{Agg}
use Rattle.cel_types.specs.declared.fault.TypeFault.{TypeFault}
use Rattle.cel_types.specs.declared.fault.TypeFault.TheVariants.{KindMismatch}
use Rattle.cel_types.specs.Aggregates.{Assign, Assignment, IsAttributeAt, none, set, FailToAssign, absent, twice, scalar, kinds, then}
use Rattle.cel_types.specs.Scopes.{Typed, at_place}
use Rattle.cel_types.proofs.ScalarLaws.{IsOf-one, IsOf-no_fault, HasFault-one}

-- an attribute stands at one place and has one kind
at-one : (binding : List Attr) (a : List ℕ) {place other : ℕ} {k l : Kind} → IsAttributeAt binding a place k → IsAttributeAt binding a other l → (place ≡ other) × (k ≡ l)
at-one binding a {place = place} {other = other} {k = k} {l = l} at at' =
    let first : Typed = record { term = Binding place; kind = k } in
    let second : Typed = record { term = Binding other; kind = l } in
    let found : Some first ≡ Some second = sym at ∙ at' in
    let same : first ≡ second = cc in
    let terms : Binding place ≡ Binding other = ap (λ (t : Typed). t.term) same in
    let places : place ≡ other = cc in
    (places, ap (λ (t : Typed). t.kind) same)

-- and none that is absent does
at-absent : (binding : List Attr) (a : List ℕ) {place : ℕ} {k : Kind} → place_of a binding ≡ None → IsAttributeAt binding a place k → ⊥
at-absent binding a gone at = let both = sym at ∙ ap (at_place Binding binding) gone in cc

module _ {binding event : List Attr} where
  -- by induction on the first derivation
  pub Assign-one : {names : List (List ℕ)} {aggs : List Agg} {assignments others : List Assignment} → Assign binding event names aggs assignments → Assign binding event names aggs others → assignments ≡ others
  Assign-one none none = refl
  Assign-one (set {a = a} at free i rest) (set at' free' j rest') =
      let places = (at-one binding a at at').0 in
      let terms = (IsOf-one i j).0 in
      let more = Assign-one rest rest' in
      λ n. record { place = places n; term = terms n } ∷ more n

  -- by induction on the fault
  pub Assign-no_fault : {names : List (List ℕ)} {aggs : List Agg} {assignments : List Assignment} {f : TypeFault} → Assign binding event names aggs assignments → FailToAssign binding event names aggs f → ⊥
  Assign-no_fault none h = elim h [ ]
  Assign-no_fault (set {a = a} at free i rest) (absent gone) = at-absent binding a gone at
  Assign-no_fault (set at free i rest) (twice at' taken) = let both = sym free ∙ taken in cc
  Assign-no_fault (set at free i rest) (scalar at' free' h) = IsOf-no_fault i h
  Assign-no_fault (set {a = a} at free i rest) (kinds at' free' j n) = n ((at-one binding a at' at).1 ∙ (IsOf-one i j).1)
  Assign-no_fault (set at free i rest) (then at' free' j h) = Assign-no_fault rest h

  -- by induction on the first fault
  pub FailToAssign-one : {names : List (List ℕ)} {aggs : List Agg} {f g : TypeFault} → FailToAssign binding event names aggs f → FailToAssign binding event names aggs g → f ≡ g
  FailToAssign-one (absent gone) (absent gone') = refl
  FailToAssign-one (absent {a = a} gone) (twice at' taken') = absurd (at-absent binding a gone at')
  FailToAssign-one (absent {a = a} gone) (scalar at' free' h') = absurd (at-absent binding a gone at')
  FailToAssign-one (absent {a = a} gone) (kinds at' free' i' n') = absurd (at-absent binding a gone at')
  FailToAssign-one (absent {a = a} gone) (then at' free' i' h') = absurd (at-absent binding a gone at')
  FailToAssign-one (twice {a = a} at taken) (absent gone') = absurd (at-absent binding a gone' at)
  FailToAssign-one (twice at taken) (twice at' taken') = refl
  FailToAssign-one (twice at taken) (scalar at' free' h') = let both = sym free' ∙ taken in cc
  FailToAssign-one (twice at taken) (kinds at' free' i' n') = let both = sym free' ∙ taken in cc
  FailToAssign-one (twice at taken) (then at' free' i' h') = let both = sym free' ∙ taken in cc
  FailToAssign-one (scalar {a = a} at free h) (absent gone') = absurd (at-absent binding a gone' at)
  FailToAssign-one (scalar at free h) (twice at' taken') = let both = sym free ∙ taken' in cc
  FailToAssign-one (scalar at free h) (scalar at' free' h') = HasFault-one h h'
  FailToAssign-one (scalar at free h) (kinds at' free' i' n') = absurd (IsOf-no_fault i' h)
  FailToAssign-one (scalar at free h) (then at' free' i' h') = absurd (IsOf-no_fault i' h)
  FailToAssign-one (kinds {a = a} at free i n) (absent gone') = absurd (at-absent binding a gone' at)
  FailToAssign-one (kinds at free i n) (twice at' taken') = let both = sym free ∙ taken' in cc
  FailToAssign-one (kinds at free i n) (scalar at' free' h') = absurd (IsOf-no_fault i h')
  FailToAssign-one (kinds {a = a} at free i n) (kinds at' free' i' n') = let want = (at-one binding a at at').1 in let got = (IsOf-one i i').1 in λ m. KindMismatch (want m) (got m)
  FailToAssign-one (kinds {a = a} at free i n) (then at' free' i' h') = absurd (n ((at-one binding a at at').1 ∙ (IsOf-one i' i).1))
  FailToAssign-one (then {a = a} at free i h) (absent gone') = absurd (at-absent binding a gone' at)
  FailToAssign-one (then at free i h) (twice at' taken') = let both = sym free ∙ taken' in cc
  FailToAssign-one (then at free i h) (scalar at' free' h') = absurd (IsOf-no_fault i h')
  FailToAssign-one (then {a = a} at free i h) (kinds at' free' i' n') = absurd (n' ((at-one binding a at' at).1 ∙ (IsOf-one i i').1))
  FailToAssign-one (then at free i h) (then at' free' i' h') = FailToAssign-one h h'
