-- Tuples that stand by key: those that are eligible for a binding stand under its key.
use Rattle.std.proofs.Common.{◌≡◌, ◌∙◌, ◌==◌, sym, ap, refl, subst, eqb-true, ℕ, zero, suc, ℤ, ◌<◌, Bool, true, false, ◌&&◌, cond, append-nil, get_or, length, nat_lt, set, List, [], ◌∷◌, ◌++◌}
use Rattle.std.specs.Prelude.{Some, None, slice_get}
use Rattle.std.specs.declared.cmp.Ordering.TheVariants.{Equal}
use Rattle.std.specs.Cmp.{tied_itself}
use Rattle.std.specs.List.{All, filter}
use Rattle.std.specs.Option.{option_map}
use Rattle.std.specs.Ordering.{eq_by_cmp, int_cmp, is_eq, nat_cmp, ordering_then}
use Rattle.std.proofs.lemmas.Bool.{eq-eqb}
use Rattle.std.proofs.lemmas.Cmp.{nat_cmp_total}
use Rattle.std.proofs.lemmas.List.{get_or-set_other, get_or-set_same, length-set}
use Rattle.std.proofs.lemmas.List.Elements.{filter_agree, filter-append}
use Rattle.std.proofs.lemmas.Option.{get_or_from_slice_get, slice_get-get_or, slice_get_within}
use Rattle.event_types.specs.Order.{value_cmp}
use Rattle.event_types.specs.OrderLaws.{tied_values}
use Rattle.event_types.specs.Tuple.{TupleView}
use Rattle.event_types.specs.declared.comparison.Cmp.{Cmp}
use Rattle.event_types.specs.declared.comparison.Cmp.TheVariants as cmp
use Rattle.event_types.specs.declared.value.Value.{Value}
use Rattle.event_types.specs.declared.value.Value.TheVariants as value
use Rattle.semantics.specs.Nexts.{is_eligible}
use Rattle.semantics.specs.Scalars.{Pr, Test, Lit, Event, Binding, Dur}
use Rattle.semantics.specs.Truth.{all_true, is_met, order_of, truth}
use Rattle.semantics.specs.Values.{value_at}
use Rattle.semantics.proofs.ListLemmas.{filter-filter}
use Rattle.scalar_expr.specs.Classes as class
use Rattle.scalar_expr.specs.declared.alike.KeyPlaces.{KeyPlaces}
use Rattle.derivations.specs.DerivedTuples.{DerivedTuple, derived_eligible}
use Rattle.derivations.specs.Parted.{AreParted, IsKeyOf, has_key_at, is_place, place_of}

-- two decimals that are met as equal tie in their order
decimals_tie : (s t : ℕ) (x y : ℤ) → is_met cmp.Eq (order_of (value.Dec s x) (value.Dec t y)) ≡ true → eq_by_cmp value_cmp (value.Dec s x) (value.Dec t y) ≡ true
decimals_tie s t x y e = by_scale (s == t) refl e
  where
    by_scale : (b : Bool) → (s == t) ≡ b → is_met cmp.Eq (cond b (Some (int_cmp x y)) None) ≡ true → is_eq (ordering_then (nat_cmp s t) (int_cmp x y)) ≡ true
    by_scale true is met = let tie : nat_cmp s t ≡ Equal = ap (nat_cmp s) (sym (eqb-true s t is)) ∙ tied_itself nat_cmp_total s in ap (λ o. is_eq (ordering_then o (int_cmp x y))) tie ∙ met
    by_scale false is met = absurd (cc)

-- values that are met as equal are one
pub met_same : (x y : Value) → is_met cmp.Eq (order_of x y) ≡ true → x ≡ y
met_same x y met = tied_values x y (ties x y met)
  where
    ties : (x y : Value) → is_met cmp.Eq (order_of x y) ≡ true → eq_by_cmp value_cmp x y ≡ true
    ties (value.Int x) (value.Int y) e = e
    ties (value.Text x) (value.Text y) e = e
    ties (value.Dec s x) (value.Dec t y) e = decimals_tie s t x y e
    ties x y e = absurd (cc)

-- only a key part has the class of one
fixed_is_no_key : {P : Type 0} (place e k : ℕ) (c : Cmp) (v : Value) → class.fixed place c v ≡ class.Key e k → P
fixed_is_no_key place e k cmp.Eq v is = absurd (cc)
fixed_is_no_key place e k cmp.Ne v is = absurd (cc)
fixed_is_no_key place e k cmp.Lt v is = absurd (cc)
fixed_is_no_key place e k cmp.Le v is = absurd (cc)
fixed_is_no_key place e k cmp.Gt v is = absurd (cc)
fixed_is_no_key place e k cmp.Ge v is = absurd (cc)

bounded_is_no_key : {P : Type 0} (e k : ℕ) (c : Cmp) (v : Value) → class.class_of (Test Dur c (Lit v)) ≡ class.Key e k → P
bounded_is_no_key e k cmp.Eq (value.Int most) is = absurd (cc)
bounded_is_no_key e k cmp.Ne (value.Int most) is = absurd (cc)
bounded_is_no_key e k cmp.Lt (value.Int most) is = absurd (cc)
bounded_is_no_key e k cmp.Le (value.Int most) is = absurd (cc)
bounded_is_no_key e k cmp.Gt (value.Int most) is = absurd (cc)
bounded_is_no_key e k cmp.Ge (value.Int most) is = absurd (cc)
bounded_is_no_key e k c value.Over is = absurd (cc)
bounded_is_no_key e k c (value.Text bytes) is = absurd (cc)
bounded_is_no_key e k c (value.Dec scale units) is = absurd (cc)

and_left : (x y : Bool) → (x && y) ≡ true → x ≡ true
and_left true y e = refl
and_left false y e = absurd (cc)

and_right : (x y : Bool) → (x && y) ≡ true → y ≡ true
and_right true y e = e
and_right false y e = absurd (cc)

module _ (event binding : TupleView) (e k : ℕ) where
  -- the attributes of the key are equal
  abbrev AreEqual : Type 0
  AreEqual = value_at event e ≡ value_at binding k

  -- a key part with the event on the left, and with the binding there
  event_first : (c : Cmp) (place bound : ℕ) → truth (Test (Event place) c (Binding bound)) event (Some binding) ≡ true → class.keyed place c bound ≡ class.Key e k → AreEqual
  event_first cmp.Eq place bound holds is = ap (value_at event) (sym place_is) ∙ met_same (value_at event place) (value_at binding bound) holds ∙ ap (value_at binding) bound_is
    where
      place_is : place ≡ e
      place_is = cc

      bound_is : bound ≡ k
      bound_is = cc
  event_first cmp.Ne place bound holds is = absurd (cc)
  event_first cmp.Lt place bound holds is = absurd (cc)
  event_first cmp.Le place bound holds is = absurd (cc)
  event_first cmp.Gt place bound holds is = absurd (cc)
  event_first cmp.Ge place bound holds is = absurd (cc)

  binding_first : (c : Cmp) (place bound : ℕ) → truth (Test (Binding bound) c (Event place)) event (Some binding) ≡ true → class.keyed place c bound ≡ class.Key e k → AreEqual
  binding_first cmp.Eq place bound holds is = ap (value_at event) (sym place_is) ∙ sym (met_same (value_at binding bound) (value_at event place) holds) ∙ ap (value_at binding) bound_is
    where
      place_is : place ≡ e
      place_is = cc

      bound_is : bound ≡ k
      bound_is = cc
  binding_first cmp.Ne place bound holds is = absurd (cc)
  binding_first cmp.Lt place bound holds is = absurd (cc)
  binding_first cmp.Le place bound holds is = absurd (cc)
  binding_first cmp.Gt place bound holds is = absurd (cc)
  binding_first cmp.Ge place bound holds is = absurd (cc)

  -- where a part holds whose class is this key, they are
  part_met : (p : Pr) → truth p event (Some binding) ≡ true → class.class_of p ≡ class.Key e k → AreEqual
  part_met (Test (Event place) c (Binding bound)) holds is = event_first c place bound holds is
  part_met (Test (Binding bound) c (Event place)) holds is = binding_first c place bound holds is
  part_met (Test (Event place) c (Lit v)) holds is = fixed_is_no_key place e k c v is
  part_met (Test (Lit v) c (Event place)) holds is = fixed_is_no_key place e k (class.exchanged c) v is
  part_met (Test Dur c (Lit v)) holds is = bounded_is_no_key e k c v is
  part_met p holds is = absurd (cc)

  -- so they are where all parts hold, and one at some place has this class
  part_met_at : (parts : List Pr) (place : ℕ) → option_map class.class_of (slice_get parts place) ≡ Some (class.Key e k) → all_true parts event (Some binding) ≡ true → AreEqual
  part_met_at [] place is holds = cc
  part_met_at (p ∷ ps) zero is holds = let same : class.class_of p ≡ class.Key e k = cc in part_met p (and_left (truth p event (Some binding)) (all_true ps event (Some binding)) holds) same
  part_met_at (p ∷ ps) (suc place) is holds = part_met_at ps place is (and_right (truth p event (Some binding)) (all_true ps event (Some binding)) holds)

-- a key part of a condition is a key of it
pub part_is_key : (parts : List Pr) (place event binding : ℕ) → option_map class.class_of (slice_get parts place) ≡ Some (class.Key event binding) → IsKeyOf parts (record { event = event; binding = binding })
part_is_key parts place event binding is = λ x b holds. part_met_at x b event binding parts place is holds

eqb_itself : (n : ℕ) → (n == n) ≡ true
eqb_itself n = eq-eqb n n refl

-- those that are eligible for a binding are among those that have its key
pub eligible_parted : (p : List Pr) (key : KeyPlaces) (keys : List Value) (b : TupleView) (place : ℕ) (found : List DerivedTuple) → IsKeyOf p key → place_of keys (value_at b key.binding) ≡ Some place
    → derived_eligible p b (filter (has_key_at key.event keys place) found) ≡ derived_eligible p b found
eligible_parted p key keys b place found is there =
    filter-filter (λ (x : DerivedTuple). is_eligible p b x.tuple) (has_key_at key.event keys place) found
    ∙ filter_agree (λ (x : DerivedTuple). has_key_at key.event keys place x && is_eligible p b x.tuple) (λ (x : DerivedTuple). is_eligible p b x.tuple) (λ x. go x (is_eligible p b x.tuple) refl) found
  where
    and_false : (t : Bool) → (t && false) ≡ false
    and_false true = refl
    and_false false = refl

    has : (x : DerivedTuple) → is_eligible p b x.tuple ≡ true → has_key_at key.event keys place x ≡ true
    has x e = ap (is_place place) (ap (place_of keys) (is x.tuple b (and_right (nat_lt b.at x.tuple.from) (all_true p x.tuple (Some b)) e)) ∙ there) ∙ eqb_itself place

    go : (x : DerivedTuple) (t : Bool) → is_eligible p b x.tuple ≡ t → (has_key_at key.event keys place x && t) ≡ t
    go x true e = ap (λ h. h && true) (has x e)
    go x false e = and_false (has_key_at key.event keys place x)

-- at first no key has a tuple
pub parted_none : (event : ℕ) (keys : List Value) (sides : List (List DerivedTuple)) → All (λ (side : List DerivedTuple). side ≡ []) sides → AreParted event keys sides []
parted_none event keys sides empty = λ place side is.
    let within = slice_get_within sides place side is in sym (get_or_from_slice_get sides place side side is) ∙ empty place side within

module _ (event : ℕ) (keys : List Value) (sides : List (List DerivedTuple)) (found : List DerivedTuple) (x : DerivedTuple) (are : AreParted event keys sides found) where
  -- one more tuple, of this key or of another
  one_more : (place : ℕ) (t : Bool) → has_key_at event keys place x ≡ t → filter (has_key_at event keys place) (found ++ x ∷ []) ≡ filter (has_key_at event keys place) found ++ cond t (x ∷ []) []
  one_more place t is = filter-append (has_key_at event keys place) found (x ∷ []) ∙ ap (λ b. filter (has_key_at event keys place) found ++ cond b (x ∷ []) []) is

  -- a tuple whose key is none of these is passed over
  pub parted_pass : place_of keys (value_at x.tuple event) ≡ None → AreParted event keys sides (found ++ x ∷ [])
  parted_pass none = λ place side is.
      are place side is ∙ sym (append-nil (filter (has_key_at event keys place) found)) ∙ sym (one_more place false (ap (is_place place) none))

  -- a tuple is put under its key
  pub parted_put : (here : ℕ) (old new : List DerivedTuple) → place_of keys (value_at x.tuple event) ≡ Some here → slice_get sides here ≡ Some old → new ≡ old ++ x ∷ [] → AreParted event keys (set sides here new) (found ++ x ∷ [])
  parted_put here old new there was put = λ place side is. at place side is (place == here) refl
    where
      at : (place : ℕ) (side : List DerivedTuple) → slice_get (set sides here new) place ≡ Some side → (t : Bool) → (place == here) ≡ t → side ≡ filter (has_key_at event keys place) (found ++ x ∷ [])
      at place side is true e =
          let same : place ≡ here = eqb-true place here e in
          sym (get_or_from_slice_get (set sides here new) place side [] is)
          ∙ ap (λ n. get_or (set sides here new) n []) same
          ∙ get_or-set_same sides here new [] (slice_get_within sides here old was)
          ∙ put ∙ ap (λ ys. ys ++ x ∷ []) (are here old was)
          ∙ sym (one_more here true (ap (is_place here) there ∙ eqb_itself here))
          ∙ ap (λ n. filter (has_key_at event keys n) (found ++ x ∷ [])) (sym same)
      at place side is false e =
          let other : place ≡ here → ⊥ = λ same. (let no : false ≡ true = sym e ∙ ap (λ n. n == here) same ∙ eqb_itself here in absurd (cc)) in
          let within : place < length sides = subst (λ (n : ℕ). place < n) (length-set sides here new) (slice_get_within (set sides here new) place side is) in
          let before : get_or sides place [] ≡ side = sym (get_or-set_other sides here place new [] other) ∙ get_or_from_slice_get (set sides here new) place side [] is in
          are place side (slice_get-get_or sides place [] within ∙ ap Some before)
          ∙ sym (append-nil (filter (has_key_at event keys place) found))
          ∙ sym (one_more place false (ap (is_place place) there ∙ e))
