-- What a tuple matches and leaves at one wait, whatever the key by which it is looked up.
use Rattle.std.proofs.Common.{◌≡◌, ◌∙◌, sym, ap, refl, ℕ, Bool, true, false, not, ◌&&◌, List, [], ◌∷◌, map}
use Rattle.std.specs.Prelude.{Option, Some, None}
use Rattle.std.specs.List.{All, filter, flat_map}
use Rattle.std.proofs.lemmas.List.Elements.{All-contains, All-cons, All-nil, filter_agree}
use Rattle.event_types.specs.declared.comparison.Cmp.{Cmp}
use Rattle.event_types.specs.declared.comparison.Cmp.TheVariants as cmp
use Rattle.event_types.specs.declared.value.Value.{Value}
use Rattle.event_types.specs.declared.value.Value.TheVariants as value
use Rattle.event_types.specs.Tuple.{TupleView}
use Rattle.instances.specs.Keys.{Key, candidates_of, is_matched, key_matches, unmatched}
use Rattle.instances.specs.declared.instance.Instance.{Instance}
use Rattle.semantics.specs.Nexts.{is_eligible}
use Rattle.semantics.specs.Scalars.{Pr, Test, Lit, Event, Binding, Dur}
use Rattle.semantics.specs.Truth.{all_true, is_met, order_of, truth}
use Rattle.semantics.specs.Values.{value_at}
use Rattle.scalar_expr.specs.Classes as class
use Rattle.scalar_expr.proofs.CanonicalLaws.{turned_met}
use Rattle.epoch_laws.specs.Events.{IsKeyOf}
use Rattle.epoch_laws.proofs.Lists.{and-false, flat_map-filter}

-- equality of values doesn't depend on the side
equal_turned : (v w : Value) → is_met cmp.Eq (order_of v w) ≡ is_met cmp.Eq (order_of w v)
equal_turned v w = turned_met cmp.Eq w v

-- only a key part has the class of one
fixed_is_no_key : {P : Type 0} (place e k : ℕ) (c : Cmp) (v : Value) → class.fixed place c v ≡ class.Key e k → P
fixed_is_no_key place e k cmp.Eq v is = absurd (cc)
fixed_is_no_key place e k cmp.Ne v is = absurd (cc)
fixed_is_no_key place e k cmp.Lt v is = absurd (cc)
fixed_is_no_key place e k cmp.Le v is = absurd (cc)
fixed_is_no_key place e k cmp.Gt v is = absurd (cc)
fixed_is_no_key place e k cmp.Ge v is = absurd (cc)

bounded_is_no_key : {P : Type 0} (e k : ℕ) (c : Cmp) (v : Value) → class.class_of (Test Dur c (Lit v)) ≡ class.Key e k → P
bounded_is_no_key e k cmp.Eq (value.Int most) is = absurd (cc)
bounded_is_no_key e k cmp.Ne (value.Int most) is = absurd (cc)
bounded_is_no_key e k cmp.Lt (value.Int most) is = absurd (cc)
bounded_is_no_key e k cmp.Le (value.Int most) is = absurd (cc)
bounded_is_no_key e k cmp.Gt (value.Int most) is = absurd (cc)
bounded_is_no_key e k cmp.Ge (value.Int most) is = absurd (cc)
bounded_is_no_key e k c value.Over is = absurd (cc)
bounded_is_no_key e k c (value.Text bytes) is = absurd (cc)
bounded_is_no_key e k c (value.Dec scale units) is = absurd (cc)

module _ (r b : TupleView) (e k : ℕ) where
  abbrev Met : Type 0
  Met = is_met cmp.Eq (order_of (value_at r e) (value_at b k)) ≡ true

  -- a key part with the event on the left, and with the binding there
  event_first : (c : Cmp) (place bound : ℕ) → truth (Test (Event place) c (Binding bound)) r (Some b) ≡ true → class.keyed place c bound ≡ class.Key e k → Met
  event_first cmp.Eq place bound holds is = (λ i. is_met cmp.Eq (order_of (value_at r (sym place_is i)) (value_at b (sym bound_is i)))) ∙ holds
    where
      place_is : place ≡ e
      place_is = cc

      bound_is : bound ≡ k
      bound_is = cc
  event_first cmp.Ne place bound holds is = absurd (cc)
  event_first cmp.Lt place bound holds is = absurd (cc)
  event_first cmp.Le place bound holds is = absurd (cc)
  event_first cmp.Gt place bound holds is = absurd (cc)
  event_first cmp.Ge place bound holds is = absurd (cc)

  binding_first : (c : Cmp) (place bound : ℕ) → truth (Test (Binding bound) c (Event place)) r (Some b) ≡ true → class.keyed place c bound ≡ class.Key e k → Met
  binding_first cmp.Eq place bound holds is =
      (λ i. is_met cmp.Eq (order_of (value_at r (sym place_is i)) (value_at b (sym bound_is i)))) ∙ equal_turned (value_at r place) (value_at b bound) ∙ holds
    where
      place_is : place ≡ e
      place_is = cc

      bound_is : bound ≡ k
      bound_is = cc
  binding_first cmp.Ne place bound holds is = absurd (cc)
  binding_first cmp.Lt place bound holds is = absurd (cc)
  binding_first cmp.Le place bound holds is = absurd (cc)
  binding_first cmp.Gt place bound holds is = absurd (cc)
  binding_first cmp.Ge place bound holds is = absurd (cc)

  -- where a part holds whose class is this key, the key part holds
  part_met : (p : Pr) → truth p r (Some b) ≡ true → class.class_of p ≡ class.Key e k → Met
  part_met (Test (Event place) c (Binding bound)) holds is = event_first c place bound holds is
  part_met (Test (Binding bound) c (Event place)) holds is = binding_first c place bound holds is
  part_met (Test (Event place) c (Lit v)) holds is = fixed_is_no_key place e k c v is
  part_met (Test (Lit v) c (Event place)) holds is = fixed_is_no_key place e k (class.exchanged c) v is
  part_met (Test Dur c (Lit v)) holds is = bounded_is_no_key e k c v is
  part_met p holds is = absurd (cc)

  all_met : (choose : List Pr) → all_true choose r (Some b) ≡ true → All (λ c. c ≡ class.Key e k → Met) (map class.class_of choose)
  all_met [] holds = All-nil (λ c. c ≡ class.Key e k → Met)
  all_met (p ∷ ps) holds = go (all_met ps) (truth p r (Some b)) refl holds
    where
      go : (all_true ps r (Some b) ≡ true → All (λ c. c ≡ class.Key e k → Met) (map class.class_of ps)) → (t : Bool) → truth p r (Some b) ≡ t → (t && all_true ps r (Some b)) ≡ true → All (λ c. c ≡ class.Key e k → Met) (class.class_of p ∷ map class.class_of ps)
      go more true is rest = All-cons (λ c. c ≡ class.Key e k → Met) (class.class_of p) (map class.class_of ps) (part_met p is) (more rest)
      go more false is rest = absurd (cc)

and_right : (x y : Bool) → (x && y) ≡ true → y ≡ true
and_right true y e = e
and_right false y e = absurd (cc)

-- what is eligible for a binding is looked at with it
eligible_matches : (key : Option Key) (choose : List Pr) (r b : TupleView) → IsKeyOf key choose → is_eligible choose b r ≡ true → key_matches key r b ≡ true
eligible_matches None choose r b of e = refl
eligible_matches (Some key) choose r b of e =
    All-contains (λ c. c ≡ class.Key key.event key.binding → Met r b key.event key.binding) (map class.class_of choose) (class.Key key.event key.binding)
    (all_met r b key.event key.binding choose (and_right _ _ e)) of refl

module _ (key : Option Key) (choose : List Pr) (of : IsKeyOf key choose) where
  -- so the matched candidates are the instances for which the tuple is eligible
  matched_is : (r : TupleView) (i : Instance) → is_matched key choose r i ≡ is_eligible choose i.tuple r
  matched_is r i = go (is_eligible choose i.tuple r) refl
    where
      go : (t : Bool) → is_eligible choose i.tuple r ≡ t → (key_matches key r i.tuple && t) ≡ t
      go true e = ap (λ m. m && true) (eligible_matches key choose r i.tuple of e)
      go false e = and-false (key_matches key r i.tuple)

  -- what a tuple leaves is what it isn't eligible for, whatever the key
  pub unmatched_is : (r : TupleView) (store : List Instance) → unmatched key choose r store ≡ filter (λ i. not (is_eligible choose i.tuple r)) store
  unmatched_is r store = filter_agree (λ i. not (is_matched key choose r i)) (λ i. not (is_eligible choose i.tuple r)) (λ i. ap not (matched_is r i)) store

  -- where nothing comes of an instance for which a tuple isn't eligible, the candidates give what the whole store does
  pub candidates_give : {Y : Type 0} (give : Instance → List Y) (r : TupleView) → ((i : Instance) → is_eligible choose i.tuple r ≡ false → give i ≡ []) → (store : List Instance) → flat_map give (candidates_of key r store) ≡ flat_map give store
  candidates_give {Y} give r none store = sym (looked key refl)
    where
      looked : (k : Option Key) → key ≡ k → flat_map give store ≡ flat_map give (candidates_of k r store)
      looked None is = refl
      looked (Some k) is =
          flat_map-filter (λ i. key_matches (Some k) r i.tuple) (λ _. Unit {0}) give give (λ i _ _. refl)
          (λ i _ e. unmet i (ap (λ k. key_matches k r i.tuple) is ∙ e) (is_eligible choose i.tuple r) refl) store (λ _ _ _. tt)
        where
          unmet : (i : Instance) → key_matches key r i.tuple ≡ false → (t : Bool) → is_eligible choose i.tuple r ≡ t → give i ≡ []
          unmet i e true f = let no : true ≡ false = sym (eligible_matches key choose r i.tuple of f) ∙ e in absurd (cc)
          unmet i e false f = none i f
