-- What has a type is typed over the kinds of its scope.
use Rattle.std.proofs.Common.{◌≡◌, ◌∙◌, ap, refl, subst, ℕ, ◌<◌, List, length}
use Rattle.std.specs.Prelude.{Option, Some, None, slice_get, slice_index_or}
use Rattle.std.proofs.lemmas.List.{length-map}
use Rattle.std.proofs.lemmas.Option.{slice_get-get_or}
use Rattle.event_types.specs.declared.kind.Kind.{Kind}
use Rattle.event_types.specs.declared.kind.Kind.TheVariants as kind
use Rattle.semantics.specs.Scalars.{Sc, Pr, Event, Binding}
use Rattle.semantics.specs.Typing.{IsOfKind, IsTyped, AreTyped}
use Rattle.scalar_expr.specs.Canonical.{canonical}
use Rattle.stream_schema.specs.Schema.{Attr, kinds_of, place_of}
use Rattle.stream_schema.proofs.NameLemmas.{within-at}
use Rattle.cel_grammar.specs.declared.mark.Mark.{Mark}
use Rattle.cel_grammar.specs.declared.mark.Mark.TheVariants as mark
use Rattle.cel_grammar.specs.Trees.{Scalar, Pred}
use Rattle.cel_types.specs.Scopes.{Scope, Alone, Sequence, Iteration, Typed, at_place, attribute, named}
use Rattle.cel_types.specs.Scalars.{IsOf, number, decimal, quoted, attr, dur, two}
use Rattle.cel_types.specs.Predicates.{Means, true, test, and, or, not}
use Rattle.cel_types.specs.Typed.{event_kinds, binding_kinds}
use Rattle.cel_types.proofs.CanonicalTyped.{canonical-typed}

-- a named attribute stands in its schema, with its kind
module _ (side : ℕ → Sc) (attrs : List Attr) (name : List ℕ) (typed : Typed) where
  standing : (place : Option ℕ) → place ≡ place_of name attrs → named side attrs name ≡ Some typed → (n : ℕ) × (side n ≡ typed.term) × (slice_get (kinds_of attrs) n ≡ Some typed.kind)
  standing None at e = let n = ap (at_place side attrs) at ∙ e in cc
  standing (Some n) at e =
      let within : n < length attrs = within-at (λ (a : Attr). a.name) name attrs (Some n) at in
      let inside : n < length (kinds_of attrs) = rw (length-map attrs (λ (a : Attr). a.kind)) within in
      let found = ap (at_place side attrs) at ∙ e in
      let same : record { term = side n; kind = slice_index_or (kinds_of attrs) n kind.Int } ≡ typed = cc in
      (n, ap (λ (t : Typed). t.term) same, slice_get-get_or (kinds_of attrs) n kind.Int inside ∙ ap (λ (t : Typed). Some t.kind) same)

module _ (attrs : List Attr) (name : List ℕ) (t : Typed) where
  of_event : named Event attrs name ≡ Some t → (binding : Option (List Kind)) → IsOfKind t.term (kinds_of attrs) binding t.kind
  of_event found binding =
      let (n, term, kind) = standing Event attrs name t (place_of name attrs) refl found in
      subst (λ (s : Sc). IsOfKind s (kinds_of attrs) binding t.kind) term kind

  of_binding : named Binding attrs name ≡ Some t → (event : List Kind) → IsOfKind t.term event (Some (kinds_of attrs)) t.kind
  of_binding found event =
      let (n, term, kind) = standing Binding attrs name t (place_of name attrs) refl found in
      subst (λ (s : Sc). IsOfKind s event (Some (kinds_of attrs)) t.kind) term kind

attribute-of_kind : (scope : Scope) (m : Mark) (name : List ℕ) (t : Typed) → attribute scope m name ≡ Some t → IsOfKind t.term (event_kinds scope) (binding_kinds scope) t.kind
attribute-of_kind (Alone attrs) mark.Bare name t e = of_event attrs name t e None
attribute-of_kind (Sequence left right) mark.First name t e = of_binding left name t e (kinds_of right)
attribute-of_kind (Sequence left right) mark.Second name t e = of_event right name t e (Some (kinds_of left))
attribute-of_kind (Iteration binding event) mark.So name t e = of_binding binding name t e (kinds_of event)
attribute-of_kind (Iteration binding event) mark.Second name t e = of_event event name t e (Some (kinds_of binding))
attribute-of_kind scope m name t e = cc

-- by induction on the derivation
pub term-of_kind : (scope : Scope) (x : Scalar) (s : Sc) (k : Kind) → IsOf scope x s k → IsOfKind s (event_kinds scope) (binding_kinds scope) k
term-of_kind scope x s k number = refl
term-of_kind scope x s k quoted = refl
term-of_kind scope x s k (attr {m = m} {a = a} e) = attribute-of_kind scope m a (record { term = s; kind = k }) e
term-of_kind scope x s k dur = refl
term-of_kind scope x s k decimal = refl
term-of_kind scope x s k (two {x = y} {y = z} {s = t} {t = u} {k = left} {l = right} i j e) = (left, right, term-of_kind scope y t left i, term-of_kind scope z u right j, e)

-- by induction on the derivation
pub meaning-typed : (scope : Scope) (p : Pred) (u : Pr) → Means scope p u → IsTyped u (event_kinds scope) (binding_kinds scope)
meaning-typed scope p u true = tt
meaning-typed scope p u (test {x = x} {y = y} {s = s} {t = t} {k = k} i j) = (k, term-of_kind scope x s k i, term-of_kind scope y t k j)
meaning-typed scope p u (and {p = q} {q = r} {u = v} {v = w} m n) = (meaning-typed scope q v m, meaning-typed scope r w n)
meaning-typed scope p u (or {p = q} {q = r} {u = v} {v = w} m n) = (meaning-typed scope q v m, meaning-typed scope r w n)
meaning-typed scope p u (not {p = q} {u = v} m) = meaning-typed scope q v m

-- a condition that has a meaning is typed in its scope
pub condition-typed : (scope : Scope) (p : Pred) (u : Pr) → Means scope p u → AreTyped (canonical u) (event_kinds scope) (binding_kinds scope)
condition-typed scope p u m = canonical-typed (event_kinds scope) (binding_kinds scope) u (meaning-typed scope p u m)
