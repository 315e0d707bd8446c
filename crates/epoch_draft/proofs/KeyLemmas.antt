-- What the key of a condition tells.
use Rattle.std.proofs.Common.{◌≡◌, ◌∙◌, sym, ap, refl, subst, ℕ, ℤ, ◌<◌, ◌≤◌, ◌&&◌, Bool, true, false, cond, length, get_or, List, [], ◌∷◌, map, arith}
use Rattle.std.specs.Prelude.{Contains, Option, Some, None}
use Rattle.std.specs.Option.{option_and_then, option_or}
use Rattle.std.specs.List.{All, filter}
use Rattle.std.proofs.lemmas.List.Elements.{All-filter, All-head, All-tail, Contains-append_left, Contains-append_right, Contains-push}
use Rattle.std.proofs.lemmas.Option.{slice_get_within}
use Rattle.event_types.specs.Tuple.{TupleView}
use Rattle.event_types.specs.declared.comparison.Cmp.{Cmp}
use Rattle.event_types.specs.declared.comparison.Cmp.TheVariants as cmp
use Rattle.event_types.specs.declared.kind.Kind.{Kind}
use Rattle.event_types.specs.declared.value.Value.{Value}
use Rattle.event_types.specs.declared.value.Value.TheVariants as value
use Rattle.instances.specs.Keys.{BindingFits, EventFits, Key, candidates_of, key_matches}
use Rattle.instances.specs.declared.instance.Instance.{Instance}
use Rattle.semantics.specs.Kinds.{HasKinds}
use Rattle.semantics.specs.Nexts.{is_eligible}
use Rattle.semantics.specs.Scalars.{Pr, Test, Lit, Event, Binding, Dur}
use Rattle.semantics.specs.Typing.{AreTyped, IsTyped}
use Rattle.semantics.proofs.KindLemmas.{kinds_length}
use Rattle.scalar_expr.specs.Classes as class
use Rattle.scalar_expr.specs.Classes.{Class}
use Rattle.binding_index.specs.KeyParts.{first_key}
use Rattle.binding_index.specs.KeyParts as parts
use Rattle.binding_index.specs.Stores.{instances_of, key_of}
use Rattle.binding_index.specs.declared.store.Store.{Store}
use Rattle.automaton.specs.States.{Net, wait_at}
use Rattle.automaton.specs.declared.wait.Wait.{Wait}
use Rattle.epoch_laws.specs.Events.{IsKeyOf}
use Rattle.epoch_laws.proofs.Events.{candidates_give}
use Rattle.epoch_laws.proofs.Lists.{filter-filter}
use Rattle.epoch_laws.specs.Instances.{began}
use Rattle.epoch_draft.specs.Held.{Shape, held, instances_in, key_in}
use Rattle.epoch_draft.specs.Pairs.{followed, met, paired_with}
use Rattle.epoch_draft.specs.Stores.{HasStores}

-- the first key of a condition is one of its keys
pub first_key_is : (choose : List Pr) → IsKeyOf (first_key choose) choose
first_key_is [] = tt
first_key_is (p ∷ ps) = go (class.class_of p) refl (first_key ps) (first_key_is ps)
  where
    behind : (c : Class) → class.class_of p ≡ c → (k : Option Key) → IsKeyOf k ps → IsKeyOf k (p ∷ ps)
    behind c is None of = tt
    behind c is (Some key) of = Contains-append_right (class.class_of p ∷ []) (map class.class_of ps) (class.Key key.event key.binding) of

    go : (c : Class) → class.class_of p ≡ c → (k : Option Key) → IsKeyOf k ps → IsKeyOf (option_or (parts.key_in c) k) (p ∷ ps)
    go (class.Key e b) is k of = subst (Contains (class.class_of p ∷ map class.class_of ps)) is (Contains-append_left (class.class_of p ∷ []) (map class.class_of ps) (class.class_of p) (Contains-push [] (class.class_of p)))
    go (class.Fixed e c v) is k of = behind (class.Fixed e c v) is k of
    go (class.Bound strict most) is k of = behind (class.Bound strict most) is k of
    go class.Rest is k of = behind class.Rest is k of

-- a key whose two places are within these kinds
record IsWithin (es bs : List Kind) (key : Key) : Type 0 where
  event : key.event < length es
  binding : key.binding < length bs

-- the same where there is a key
abbrev IsWithinBy : List Kind → List Kind → Option Key → Type 0
IsWithinBy es bs None = Unit {0}
IsWithinBy es bs (Some key) = IsWithin es bs key

module _ (es bs : List Kind) where
  keyed_within : (place bound : ℕ) (c : Cmp) → place < length es → bound < length bs → IsWithinBy es bs (parts.key_in (class.keyed place c bound))
  keyed_within place bound cmp.Eq lt ltb = record { event = lt; binding = ltb }
  keyed_within place bound cmp.Ne lt ltb = tt
  keyed_within place bound cmp.Lt lt ltb = tt
  keyed_within place bound cmp.Le lt ltb = tt
  keyed_within place bound cmp.Gt lt ltb = tt
  keyed_within place bound cmp.Ge lt ltb = tt

  fixed_within : (place : ℕ) (c : Cmp) (v : Value) → IsWithinBy es bs (parts.key_in (class.fixed place c v))
  fixed_within place cmp.Eq v = tt
  fixed_within place cmp.Ne v = tt
  fixed_within place cmp.Lt v = tt
  fixed_within place cmp.Le v = tt
  fixed_within place cmp.Gt v = tt
  fixed_within place cmp.Ge v = tt

  bounded_within : (c : Cmp) (most : ℤ) → IsWithinBy es bs (parts.key_in (class.bounded c most))
  bounded_within cmp.Lt most = tt
  bounded_within cmp.Le most = tt
  bounded_within cmp.Eq most = tt
  bounded_within cmp.Ne most = tt
  bounded_within cmp.Gt most = tt
  bounded_within cmp.Ge most = tt

  -- the places of a typed key part
  part_within : (p : Pr) → IsTyped p es (Some bs) → IsWithinBy es bs (parts.key_in (class.class_of p))
  part_within (Test (Event place) c (Binding bound)) typed = keyed_within place bound c (slice_get_within es place typed.0 typed.1) (slice_get_within bs bound typed.0 typed.2)
  part_within (Test (Binding bound) c (Event place)) typed = keyed_within place bound c (slice_get_within es place typed.0 typed.2) (slice_get_within bs bound typed.0 typed.1)
  part_within (Test (Event place) c (Lit v)) typed = fixed_within place c v
  part_within (Test (Lit v) c (Event place)) typed = fixed_within place (class.exchanged c) v
  part_within (Test Dur c (Lit (value.Int most))) typed = bounded_within c most
  part_within p typed = tt

  key_within : (choose : List Pr) → AreTyped choose es (Some bs) → IsWithinBy es bs (first_key choose)
  key_within [] typed = tt
  key_within (p ∷ ps) typed = go (parts.key_in (class.class_of p)) (part_within p (All-head (λ p. IsTyped p es (Some bs)) p ps typed)) (key_within ps (All-tail (λ p. IsTyped p es (Some bs)) p ps typed))
    where
      go : (k : Option Key) → IsWithinBy es bs k → IsWithinBy es bs (first_key ps) → IsWithinBy es bs (option_or k (first_key ps))
      go None one rest = rest
      go (Some key) one rest = one

  -- a tuple of the kinds over which a condition is typed has the attribute that its key names
  pub event_fits : (choose : List Pr) (t : TupleView) → AreTyped choose es (Some bs) → HasKinds es t → EventFits (first_key choose) t
  event_fits choose t typed h = go (first_key choose) (key_within choose typed)
    where
      go : (k : Option Key) → IsWithinBy es bs k → EventFits k t
      go None w = tt
      go (Some key) w = let lt = w.event in let e = kinds_length es t.vals h in omega (arith, lt, e)

  -- and so has a binding
  pub binding_fits : (choose : List Pr) (b : TupleView) → AreTyped choose es (Some bs) → HasKinds bs b → BindingFits (first_key choose) b
  binding_fits choose b typed h = go (first_key choose) (key_within choose typed)
    where
      go : (k : Option Key) → IsWithinBy es bs k → BindingFits k b
      go None w = tt
      go (Some key) w = let lt = w.binding in let e = kinds_length bs b.vals h in omega (arith, lt, e)

-- what holds of all instances holds of the candidates
pub candidates_all : (P : Instance → Type 0) (key : Option Key) (t : TupleView) (store : List Instance) → All P store → All P (candidates_of key t store)
candidates_all P None t store all = all
candidates_all P (Some key) t store all = All-filter (λ (i : Instance). key_matches (Some key) t i.tuple) P store all

-- what passes two tests is no more than what passes one
both_fewer : {X : Type 0} (q p : X → Bool) (xs : List X) → length (filter (λ x. q x && p x) xs) ≤ length (filter p xs)
both_fewer q p [] = omega arith
both_fewer {X} q p (x ∷ xs) = go (q x) (p x) (both_fewer q p xs)
  where
    go : (a b : Bool) → length (filter (λ x. q x && p x) xs) ≤ length (filter p xs) → length (cond (a && b) (x ∷ filter (λ x. q x && p x) xs) (filter (λ x. q x && p x) xs)) ≤ length (cond b (x ∷ filter p xs) (filter p xs))
    go true true le = omega (arith, le)
    go true false le = le
    go false true le = omega (arith, le)
    go false false le = le

all_fewer : {X : Type 0} (q : X → Bool) (xs : List X) → length (filter q xs) ≤ length xs
all_fewer q [] = omega arith
all_fewer {X} q (x ∷ xs) = go (q x) (all_fewer q xs)
  where
    go : (a : Bool) → length (filter q xs) ≤ length xs → length (cond a (x ∷ filter q xs) (filter q xs)) ≤ length (x ∷ xs)
    go true le = omega (arith, le)
    go false le = omega (arith, le)

-- fewer instances have no more candidates
pub candidates_fewer : (key : Option Key) (t : TupleView) (q : Instance → Bool) (store : List Instance) → length (candidates_of key t (filter q store)) ≤ length (candidates_of key t store)
candidates_fewer None t q store = all_fewer q store
candidates_fewer (Some key) t q store =
    let p = λ (i : Instance). key_matches (Some key) t i.tuple in
    let same = ap length (filter-filter p q store) in
    let le = both_fewer q p store in omega (arith, same, le)

-- the key of a waiting state's store is that of its condition
pub key_at : (net : Net) (stores : List (Option Store)) (n : ℕ) (w : Wait) → HasStores net stores → wait_at net n ≡ Some w → key_in (get_or stores n None) ≡ first_key w.choose
key_at net stores n w has at = ap (option_and_then (λ (shape : Shape). shape.key)) (has.shapes n w at)

-- what such a store gives for a tuple
pub found_there : (net : Net) (stores : List (Option Store)) (n : ℕ) (w : Wait) (store : Store) (t : TupleView) (found : List Instance) → HasStores net stores → wait_at net n ≡ Some w → get_or stores n None ≡ Some store
    → found ≡ candidates_of (key_of store) t (instances_of store) → found ≡ candidates_of (first_key w.choose) t (held stores n)
found_there net stores n w store t found has at slot is =
    is ∙ ap (λ (o : Option Store). candidates_of (key_in o) t (instances_in o)) (sym slot) ∙ ap (λ (k : Option Key). candidates_of k t (held stores n)) (key_at net stores n w has at)

-- a tuple makes nothing of a binding for which it isn't eligible
none_paired : (w : Wait) (t : TupleView) (i : Instance) → is_eligible w.choose i.tuple t ≡ false → paired_with w t i ≡ []
none_paired w t i e = ap (λ b. map (began i.first) (cond b (followed w.fold i.tuple t) [])) e

-- so it makes of the candidates what it makes of all
pub met_candidates : (w : Wait) (t : TupleView) (store : List Instance) → met w (candidates_of (first_key w.choose) t store) t ≡ met w store t
met_candidates w t store = candidates_give (first_key w.choose) w.choose (first_key_is w.choose) (paired_with w t) t (none_paired w t) store
