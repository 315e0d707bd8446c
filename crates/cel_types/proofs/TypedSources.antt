-- What a source gives is typed over the kinds of the streams.
use Rattle.std.proofs.Common.{◌≡◌, ◌∙◌, ◌+◌, ◌<◌, ◌==◌, ℕ, suc, List, [], ◌∷◌, ◌++◌, Bool, true, false, ◌&&◌, map, length, refl, sym, ap, subst, inl, inr, eqb-true, append_assoc, arith}
use Rattle.std.specs.Prelude.{Option, Some, None, slice_get}
use Rattle.std.specs.List.{range_with_len}
use Rattle.std.specs.Str.{bytes_eq}
use Rattle.std.proofs.lemmas.Bool.{cases_Bool}
use Rattle.std.proofs.lemmas.List.{append-nil, length-map, map-append}
use Rattle.std.proofs.lemmas.Option.{get_or_from_slice_get, slice_get_within}
use Rattle.event_types.specs.declared.kind.Kind.{Kind}
use Rattle.event_types.specs.declared.kind.Kind.TheVariants as kind
use Rattle.semantics.specs.Expressions.{Ex}
use Rattle.semantics.specs.Scalars.{Sc, Event, Binding}
use Rattle.semantics.specs.Typing.{IsOfKind, AreOfKinds, IsTypedOver}
use Rattle.stream_schema.specs.Joining.{joined_schema, with_free}
use Rattle.stream_schema.specs.Schema.{Attr, kinds_of}
use Rattle.stream_schema.specs.Streams.{Entry, schemas_of}
use Rattle.cel_grammar.specs.declared.mark.Mark.TheVariants as mark
use Rattle.cel_grammar.specs.Trees.{Item, Agg, Source, Attr as AttrTree}
use Rattle.cel_types.specs.Aggregates.{Assign, Assignment, assigned, rebinding}
use Rattle.cel_types.specs.Aggregates as aggregates
use Rattle.cel_types.specs.Items.{Make, all_events}
use Rattle.cel_types.specs.Items as items
use Rattle.cel_types.specs.Scalars.{attr}
use Rattle.cel_types.specs.Scopes.{Alone, Sequence, Iteration}
use Rattle.cel_types.specs.SourceLaws.{kinds_in}
use Rattle.cel_types.specs.Sources.{Elaborates, name, filter, select, union, next, fold}
use Rattle.cel_types.specs.Unions.{difference_from, is_kind, is_same}
use Rattle.cel_types.proofs.TypedLaws.{term-of_kind, condition-typed}
use Rattle.event_types.proofs.NumberLemmas.{same_number}

-- terms by place are of kinds by place, by induction on the kinds
of_kinds-map : (f : ℕ → Sc) (event : List Kind) (binding : Option (List Kind)) (kinds : List Kind) (from : ℕ) → ((i : ℕ) (k : Kind) → slice_get kinds i ≡ Some k → IsOfKind (f (from + i)) event binding k)
    → AreOfKinds (map f (range_with_len from (length kinds))) event binding kinds
of_kinds-map f event binding [] from h = tt
of_kinds-map f event binding (k ∷ kinds) from h =
    let here : from + 0 ≡ from = omega arith in
    let head : IsOfKind (f from) event binding k = subst (λ (i : ℕ). IsOfKind (f i) event binding k) here (h 0 k refl) in (
      head,
      of_kinds-map f event binding kinds (from + 1)
          (λ i l at. let next : from + suc i ≡ (from + 1) + i = omega arith in subst (λ (j : ℕ). IsOfKind (f j) event binding l) next (h (suc i) l at)),
    )

-- terms behind terms
of_kinds-append : (parts more : List Sc) (event : List Kind) (binding : Option (List Kind)) (kinds others : List Kind) → AreOfKinds parts event binding kinds → AreOfKinds more event binding others
    → AreOfKinds (parts ++ more) event binding (kinds ++ others)
of_kinds-append [] more event binding [] others h i = i
of_kinds-append [] more event binding (k ∷ kinds) others h i = absurd h
of_kinds-append (s ∷ parts) more event binding [] others h i = absurd h
of_kinds-append (s ∷ parts) more event binding (k ∷ kinds) others h i = (h.0, of_kinds-append parts more event binding kinds others h.1 i)

-- the terms of all attributes are of their kinds
all-of_kinds : (schema : List Attr) → AreOfKinds (all_events schema) (kinds_of schema) None (kinds_of schema)
all-of_kinds schema =
    rw (← length-map schema (λ (a : Attr). a.kind)) (of_kinds-map Event (kinds_of schema) None (kinds_of schema) 0
    (λ i k at. let here : 0 + i ≡ i = omega arith in rw here at))

-- what items make is of the kinds of the attributes, by induction on the derivation
make-typed : {schema made more : List Attr} {list : List Item} {terms : List Sc} → Make schema made list more terms → AreOfKinds terms (kinds_of schema) None (kinds_of more)
make-typed items.none = tt
make-typed {schema} (items.all {more = more} {terms = terms} free rest) =
    rw (map-append (λ (a : Attr). a.kind) schema more) (of_kinds-append (all_events schema) terms (kinds_of schema) None (kinds_of schema) (kinds_of more) (all-of_kinds schema) (make-typed rest))
make-typed {schema} (items.named {x = x} {s = s} {k = k} i free rest) = (term-of_kind (Alone schema) x s k i, make-typed rest)

-- the term at a place of the new binding is of the old one's kind there, by induction on the derivation
assigned-typed : {binding event : List Attr} {names : List (List ℕ)} {aggs : List Agg} {assignments : List Assignment} → Assign binding event names aggs assignments
    → (i : ℕ) (k : Kind) → slice_get (kinds_of binding) i ≡ Some k → IsOfKind (assigned assignments i) (kinds_of event) (Some (kinds_of binding)) k
assigned-typed aggregates.none i k at = at
assigned-typed {binding} {event} (aggregates.set {x = x} {a = a} {place = place} {s = s} {k = l} there free is_of rest) i k at =
    elim (cases_Bool (place == i)) [
      | inl here ↦
          let places : place ≡ i = same_number place i here in
          let stands : slice_get (kinds_of binding) place ≡ Some l = term-of_kind (Iteration binding event) (AttrTree mark.So a) (Binding place) l (attr there) in
          let both : Some l ≡ Some k = sym stands ∙ ap (slice_get (kinds_of binding)) places ∙ at in
          let same : l ≡ k = cc in
          let typed = term-of_kind (Iteration binding event) x s l is_of in
          rw here (subst (λ (m : Kind). IsOfKind s (kinds_of event) (Some (kinds_of binding)) m) same typed)
      | inr past ↦ rw past (assigned-typed rest i k at)
    ]

-- the terms of the new binding are of the old one's kinds
rebinding-typed : {binding event : List Attr} {names : List (List ℕ)} {aggs : List Agg} {assignments : List Assignment} → Assign binding event names aggs assignments
    → AreOfKinds (rebinding binding assignments) (kinds_of event) (Some (kinds_of binding)) (kinds_of binding)
rebinding-typed {binding} {event} {assignments = assignments} a =
    rw (← length-map binding (λ (b : Attr). b.kind)) (of_kinds-map (assigned assignments) (kinds_of event) (Some (kinds_of binding)) (kinds_of binding) 0
    (λ i k at. let here : 0 + i ≡ i = omega arith in rw here (assigned-typed a i k at)))

-- kinds that are one
one_kind : (k l : Kind) → is_kind k l ≡ true → k ≡ l
one_kind kind.Int kind.Int e = refl
one_kind kind.Text kind.Text e = refl
one_kind (kind.Dec m) (kind.Dec n) e = ap kind.Dec (eqb-true m n e)
one_kind k l e = cc

-- both of two tests
second : (b c : Bool) → (b && c) ≡ true → c ≡ true
second true c e = e
second false c e = cc

-- schemas that don't differ have the same kinds, by induction on the first
same-kinds : (place : ℕ) (left right : List Attr) → difference_from place left right ≡ None → kinds_of left ≡ kinds_of right
same-kinds place [] [] e = refl
same-kinds place [] (b ∷ right) e = cc
same-kinds place (a ∷ left) [] e = cc
same-kinds place (a ∷ left) (b ∷ right) e =
    elim (cases_Bool (is_same a b)) [
      | inl same ↦
          let kinds : a.kind ≡ b.kind = one_kind a.kind b.kind (second (bytes_eq a.name b.name) (is_kind a.kind b.kind) same) in
          let rest = same-kinds (place + 1) left right (rw same at e) in
          λ n. kinds n ∷ rest n
      | inr other ↦ let some = rw other at e in cc
    ]

-- the kinds of joined schemas, by induction on the right one
joined-kinds : (left right : List Attr) → kinds_of left ++ kinds_of right ≡ kinds_of (joined_schema left right)
joined-kinds left [] = append-nil (kinds_of left)
joined-kinds left (a ∷ right) =
    let one : kinds_of (with_free left a) ≡ kinds_of left ++ a.kind ∷ [] = map-append (λ (b : Attr). b.kind) left _ in
    sym (append_assoc (kinds_of left) (a.kind ∷ []) (kinds_of right)) ∙ ap (λ kinds. kinds ++ kinds_of right) (sym one) ∙ joined-kinds (with_free left a) right

-- by induction on the derivation
pub gives-typed : {streams : List Entry} {e : Source} {schema : List Attr} {x : Ex} → Elaborates streams e schema x → IsTypedOver x (length streams) (kinds_in streams) (kinds_of schema)
gives-typed {streams} {schema = schema} (name {n = n} found there) =
    let size = length-map streams (λ (s : Entry). s.schema) in
    let within = slice_get_within (schemas_of streams) n schema there in
    let inside : n < length streams = omega (arith, size, within) in
    (inside, ap kinds_of (get_or_from_slice_get (schemas_of streams) n schema [] there))
gives-typed (filter {p = p} {schema = schema} {u = u} g m) = (gives-typed g, condition-typed (Alone schema) p u m)
gives-typed (select {schema = schema} g m narrow) = (kinds_of schema, gives-typed g, make-typed m)
gives-typed {streams} (union {left = left} {right = right} {y = y} g h d) =
    (gives-typed g, subst (λ (kinds : List Kind). IsTypedOver y (length streams) (kinds_in streams) kinds) (sym (same-kinds 1 left right d)) (gives-typed h))
gives-typed (next {p = p} {left = left} {right = right} {u = u} g h narrow m) = (kinds_of left, kinds_of right, gives-typed g, gives-typed h, condition-typed (Sequence left right) p u m, joined-kinds left right)
gives-typed (fold {p = p} {q = q} {left = left} {right = right} {u = u} {v = v} g h m o a) =
    (kinds_of right, gives-typed g, gives-typed h, condition-typed (Iteration left right) p u m, condition-typed (Iteration left right) q v o, rebinding-typed a)
