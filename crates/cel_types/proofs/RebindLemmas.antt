-- The new binding, one assignment after the other.
use Rattle.std.proofs.Common.{◌≡◌, ◌≢◌, ◌∙◌, ◌+◌, ◌<◌, ◌≤◌, ◌==◌, ℕ, zero, suc, List, [], ◌∷◌, ◌++◌, true, false, map, length, set, refl, sym, ap, inl, inr, arith}
use Rattle.std.specs.Prelude.{Option, None, Some, slice_set, slice_index_or}
use Rattle.std.specs.List.{range_with_len}
use Rattle.std.specs.Str.{bytes_eq}
use Rattle.std.proofs.lemmas.Bool.{cases_Bool}
use Rattle.std.proofs.lemmas.Bool.Decides.{nat_tests}
use Rattle.std.proofs.lemmas.List.FromFn.{length-map-range_with_len}
use Rattle.std.proofs.lemmas.Option.{slice_get_within}
use Rattle.std.proofs.lemmas.Slice.Eq.{bytes_eq-Decides}
use Rattle.event_types.specs.declared.kind.Kind.{Kind}
use Rattle.event_types.specs.declared.kind.Kind.TheVariants.{Int}
use Rattle.semantics.specs.Scalars.{Sc, Binding}
use Rattle.stream_schema.specs.Schema.{Attr, kinds_of, place_of}
use Rattle.stream_schema.proofs.PlaceLemmas.{position-found}
use Rattle.cel_grammar.specs.Trees.{Agg}
use Rattle.cel_types.specs.Aggregates.{Assign, Assignment, IsAttributeAt, none, set as assigns, is_among, assigned, rebinding}
use Rattle.cel_types.specs.Assigning.{Assigns, Rebinds, names_in}
use Rattle.cel_types.specs.Scopes.{Typed, at_place}
use Rattle.cel_types.proofs.AssignLemmas.{assign-append}

-- numbers are the same or not
same : (n : ℕ) → (n == n) ≡ true
same n = grind (arith, nat_tests)

apart : (m n : ℕ) → m ≢ n → (m == n) ≡ false
apart m n h = grind (arith, nat_tests)

-- functions that agree from a number on
range-same : {X : Type 0} (f g : ℕ → X) (a n : ℕ) → ((i : ℕ) → a ≤ i → g i ≡ f i) → map g (range_with_len a n) ≡ map f (range_with_len a n)
range-same f g a zero h = refl
range-same f g a (suc n) h = let rest = range-same f g (a + 1) n (λ i le. h i (omega arith)) in rw (h a (omega arith), rest) refl

-- functions that agree but at one number
range-set : {X : Type 0} (f g : ℕ → X) (a n i : ℕ) (x : X) → i < n → g (a + i) ≡ x → ((j : ℕ) → j ≢ a + i → g j ≡ f j) → map g (range_with_len a n) ≡ set (map f (range_with_len a n)) i x
range-set f g a zero i x within at others = absurd (omega arith)
range-set f g a (suc n) zero x within at others =
    let here : a + 0 ≡ a = omega arith in
    let head : g a ≡ x = rw here at at in
    let rest = range-same f g (a + 1) n (λ j le. others j (omega arith)) in
    rw (head, rest) refl
range-set f g a (suc n) (suc i) x within at others =
    let next : a + suc i ≡ (a + 1) + i = omega arith in
    let head : g a ≡ f a = others a (omega arith) in
    let rest = range-set f g (a + 1) n i x (omega arith) (rw next at at) (λ j ne. others j (λ e. ne (e ∙ next))) in
    rw (head, rest) refl

-- one assignment more leaves the other places
assigned-other : (assignments : List Assignment) (one : Assignment) (place : ℕ) → place ≢ one.place → assigned (assignments ++ one ∷ []) place ≡ assigned assignments place
assigned-other [] one place ne = rw (apart one.place place (λ e. ne (sym e))) refl
assigned-other (first ∷ assignments) one place ne = rw (assigned-other assignments one place ne) refl

-- the place of an attribute that stands at one
place-of : (o : Option ℕ) (attrs : List Attr) (place : ℕ) (k : Kind) → at_place Binding attrs o ≡ Some (record { term = Binding place; kind = k }) → o ≡ Some place
place-of None attrs place k e = cc
place-of (Some at) attrs place k e =
    let one : Typed = record { term = Binding at; kind = slice_index_or (kinds_of attrs) at Int } in
    let other : Typed = record { term = Binding place; kind = k } in
    let both : one ≡ other = cc in
    let terms : Binding at ≡ Binding place = ap (λ (t : Typed). t.term) both in
    cc

-- two names at one place are one
one-name : (attrs : List Attr) (a b : List ℕ) (place : ℕ) → place_of a attrs ≡ Some place → place_of b attrs ≡ Some place → bytes_eq a b ≡ true
one-name attrs a b place first second =
    let (x, at, is_a) = position-found (λ y. bytes_eq a y.name) attrs place first in
    let (y, at', is_b) = position-found (λ z. bytes_eq b z.name) attrs place second in
    let e : x ≡ y = cc in
    let name : x.name ≡ y.name = ap (λ z. z.name) e in
    let a_is = (bytes_eq-Decides a x.name).0 is_a in
    let b_is = (bytes_eq-Decides b y.name).0 is_b in
    (bytes_eq-Decides a b).1 (a_is ∙ name ∙ sym b_is)

module _ {binding event : List Attr} where
  -- where no aggregate assigned the name, the next one's term is the new one there, by induction on them
  assigned-here : {names : List (List ℕ)} {aggs : List Agg} {assignments : List Assignment} → Assign binding event names aggs assignments → (a : List ℕ) (place : ℕ) (s : Sc)
      → place_of a binding ≡ Some place → is_among (names_in aggs) a ≡ false → assigned (assignments ++ record { place = place; term = s } ∷ []) place ≡ s
  assigned-here none a place s at free = rw (same place) refl
  assigned-here (assigns {a = b} {place = other} {k = k} there new is_of rest) a place s at free =
      elim (cases_Bool (bytes_eq a b)) [
        | inl here ↦ let no = rw here at free in cc
        | inr past ↦
            let ne : other ≢ place = λ e. let no = one-name binding a b place at (place-of (place_of b binding) binding place k (rw e at there)) in cc in
            rw (apart other place ne) (assigned-here rest a place s at (rw past at free))
      ]

  -- one aggregate more sets its term at its place
  rebinding-more : {aggs : List Agg} {assignments : List Assignment} (a : List ℕ) (place : ℕ) (s : Sc) (k : Kind) → Assign binding event [] aggs assignments → IsAttributeAt binding a place k → is_among (names_in aggs) a ≡ false
      → place < length binding → rebinding binding (assignments ++ record { place = place; term = s } ∷ []) ≡ set (rebinding binding assignments) place s
  rebinding-more {assignments = assignments} a place s k was at free within =
      let one : Assignment = record { place = place; term = s } in
      let from : 0 + place ≡ place = omega arith in
      let found = place-of (place_of a binding) binding place k at in
      range-set (assigned assignments) (assigned (assignments ++ one ∷ [])) 0 (length binding) place s within (rw from (assigned-here was a place s found free))
      (λ j ne. assigned-other assignments one j (λ e. ne (e ∙ sym from)))

  -- what aggregates rebind, and one aggregate more
  rebinds-one : {aggs : List Agg} {agg : Agg} {one : Assignment} {before after : List Sc} → Rebinds binding event aggs before → Assign binding event (names_in aggs) (agg ∷ []) (one ∷ [])
      → after ≡ slice_set before one.place one.term → Rebinds binding event (aggs ++ agg ∷ []) after
  rebinds-one was (assigns {a = a} {place = place} {s = s} {k = k} at free is_of none) value =
      let found = place-of (place_of a binding) binding place k at in
      let (x, there, is_name) = position-found (λ y. bytes_eq a y.name) binding place found in
      record {
        assignments = was.assignments ++ record { place = place; term = s } ∷ [];
        assigns = assign-append was.assigns (assigns at free is_of none);
        value = value ∙ rw was.value (sym (rebinding-more a place s k was.assigns at free (slice_get_within binding place x there)));
      }

  -- one more aggregate rebinds what it assigns
  pub rebinds-more : {aggs : List Agg} {agg : Agg} {before after : List Sc} → Rebinds binding event aggs before → Assigns binding event (names_in aggs) agg before after → Rebinds binding event (aggs ++ agg ∷ []) after
  rebinds-more was more = rebinds-one was more.assigns more.terms

  -- before any aggregate
  pub rebinds-none : (terms : List Sc) → terms ≡ map Binding (range_with_len 0 (length binding)) → Rebinds binding event [] terms
  rebinds-none terms e = record { assignments = []; assigns = none; value = e }

  -- there are as many terms as attributes
  pub length-rebinds : {aggs : List Agg} {terms : List Sc} → Rebinds binding event aggs terms → length terms ≡ length binding
  length-rebinds was = ap length was.value ∙ length-map-range_with_len (assigned was.assignments) 0 (length binding)
