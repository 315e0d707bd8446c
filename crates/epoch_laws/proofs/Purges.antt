-- Bindings that no later event can match, and stores that leave them out.
use Rattle.std.proofs.Common.{◌≡◌, ◌∙◌, sym, ap, refl, ℕ, ℤ, pos, ◌≤◌, ◌-ℤ◌, Bool, true, false, not, ◌&&◌, cond, length, List, [], ◌∷◌, ◌++◌, map, append-nil, append_assoc, length-append, arith}
use Rattle.std.specs.Prelude.{Option, Some, None, int_lt, int_le, nat_lt}
use Rattle.std.specs.declared.cmp.Ordering.TheVariants.{Less, Equal, Greater}
use Rattle.std.specs.List.{All, filter, flat_map, list_all}
use Rattle.std.specs.List.Sorted.{IsPermutation}
use Rattle.std.specs.Ordering.{int_cmp, is_lt, is_le}
use Rattle.std.proofs.lemmas.Int.{ints}
use Rattle.std.proofs.lemmas.List.Elements.{filter-append, filter_agree, All-weaker}
use Rattle.std.proofs.lemmas.List.Sorted.{IsPermutation-refl, IsPermutation-sym, IsPermutation-trans, IsPermutation-append, IsPermutation-append_left, IsPermutation-append_comm, IsPermutation-map, IsPermutation-filter_both, length_permutation}
use Rattle.event_types.specs.declared.comparison.Cmp.{Cmp}
use Rattle.event_types.specs.declared.comparison.Cmp.TheVariants as cmp
use Rattle.event_types.specs.declared.value.Value.{Value}
use Rattle.event_types.specs.declared.value.Value.TheVariants as value
use Rattle.event_types.specs.Tuple.{TupleView}
use Rattle.semantics.specs.Denotation.{joined}
use Rattle.semantics.specs.Nexts.{is_eligible}
use Rattle.semantics.specs.Runs.{rebound}
use Rattle.semantics.specs.Scalars.{Pr, Test, Lit, Event, Binding, Dur}
use Rattle.semantics.specs.Truth.{truth, all_true}
use Rattle.semantics.proofs.ListLemmas.{filter_swap}
use Rattle.instances.specs.Alive.{is_alive, meets_bound}
use Rattle.instances.specs.Bounds.{alive_instances}
use Rattle.instances.specs.declared.instance.Instance.{Instance}
use Rattle.scalar_expr.specs.Classes.{bounded, class_of, exchanged, fixed, keyed}
use Rattle.scalar_expr.proofs.Bags.{permuted_from, permuted_to, filter_permuted, flat_map_permuted}
use Rattle.automaton.specs.Waiting.{is_empty}
use Rattle.automaton.specs.declared.wait.Turn.{Turn}
use Rattle.epoch_laws.specs.Epochs.{again, is_unmet, stepped, taken, taken_from, took, unmatched_after}
use Rattle.epoch_laws.specs.Instances.{began}
use Rattle.epoch_laws.specs.Stores.{IsWithin}
use Rattle.epoch_laws.proofs.Bags.{permuted_is, flat_map_alike, no_length}
use Rattle.epoch_laws.proofs.Lists.{and-false, every, filter-filter, filter_false, flat_map-filter}

-- what is left of bindings after an epoch
abbrev pub rest_of : List Pr → List TupleView → List TupleView → List TupleView
rest_of choose tuples bindings = filter (is_unmet choose tuples) bindings

-- bindings that step through an epoch
abbrev pub rows_stepped : List Pr → Option Turn → List TupleView → List TupleView → List TupleView → List TupleView
rows_stepped choose turn tuples entered bindings = rest_of choose tuples bindings ++ (entered ++ again turn (flat_map (taken choose turn tuples) bindings))

-- instances that are within those that wait and have the same alive ones
pub record IsStored (now : ℕ) (p : List Pr) (store waits : List Instance) : Type 0 where
  pub within : IsWithin store waits
  pub alive_same : IsPermutation (alive_instances now p store) (alive_instances now p waits)

-- one bound, at a time and later
not_lower : (now at from : ℕ) (most : ℤ) → now ≤ at → int_lt (pos now -ℤ pos from) most ≡ false → int_lt (pos at -ℤ pos from) most ≡ false
not_lower now at from most le e = grind (arith, ints)

not_within : (now at from : ℕ) (most : ℤ) → now ≤ at → int_le (pos now -ℤ pos from) most ≡ false → int_lt (pos at -ℤ pos from) most ≡ false
not_within now at from most le e = grind (arith, ints)

beyond : (now at from : ℕ) (most : ℤ) → now ≤ at → int_le (pos now -ℤ pos from) most ≡ false → int_lt most (pos at -ℤ pos from) ≡ true
beyond now at from most le e = grind (arith, ints)

still_beyond : (now at from : ℕ) (most : ℤ) → now ≤ at → int_le (pos now -ℤ pos from) most ≡ false → int_le (pos at -ℤ pos from) most ≡ false
still_beyond now at from most le e = grind (arith, ints)

is_lt_not : (x y : ℤ) → int_lt x y ≡ false → is_lt (int_cmp x y) ≡ false
is_lt_not x y e = ap (λ b. is_lt (cond b Less (cond (int_lt y x) Greater Equal))) e ∙ go (int_lt y x)
  where
    go : (c : Bool) → is_lt (cond c Greater Equal) ≡ false
    go true = refl
    go false = refl

is_le_not : (x y : ℤ) → int_lt x y ≡ false → int_lt y x ≡ true → is_le (int_cmp x y) ≡ false
is_le_not x y e f = λ i. is_le (cond (e i) Less (cond (f i) Greater Equal))

-- only a bound on DUR isn't met
fixed_met : (now : ℕ) (b : TupleView) (place : ℕ) (c : Cmp) (v : Value) → meets_bound now b (fixed place c v) ≡ true
fixed_met now b place cmp.Eq v = refl
fixed_met now b place cmp.Ne v = refl
fixed_met now b place cmp.Lt v = refl
fixed_met now b place cmp.Le v = refl
fixed_met now b place cmp.Gt v = refl
fixed_met now b place cmp.Ge v = refl

keyed_met : (now : ℕ) (b : TupleView) (place : ℕ) (c : Cmp) (bound : ℕ) → meets_bound now b (keyed place c bound) ≡ true
keyed_met now b place cmp.Eq bound = refl
keyed_met now b place cmp.Ne bound = refl
keyed_met now b place cmp.Lt bound = refl
keyed_met now b place cmp.Le bound = refl
keyed_met now b place cmp.Gt bound = refl
keyed_met now b place cmp.Ge bound = refl

not_both : {P : Type 0} (x : Bool) → x ≡ true → x ≡ false → P
not_both x e f = let no : true ≡ false = sym e ∙ f in absurd (cc)

-- a part whose bound isn't met at a time is false at it and later
dead_bound : (now : ℕ) (b r : TupleView) → now ≤ r.at → (c : Cmp) (most : ℤ) → meets_bound now b (bounded c most) ≡ false → truth (Test Dur c (Lit (value.Int most))) r (Some b) ≡ false
dead_bound now b r le cmp.Lt most e = is_lt_not (pos r.at -ℤ pos b.from) most (not_lower now r.at b.from most le e)
dead_bound now b r le cmp.Le most e = is_le_not (pos r.at -ℤ pos b.from) most (not_within now r.at b.from most le e) (beyond now r.at b.from most le e)
dead_bound now b r le c most e = absurd (cc)

dead_part : (now : ℕ) (b r : TupleView) → now ≤ r.at → (q : Pr) → meets_bound now b (class_of q) ≡ false → truth q r (Some b) ≡ false
dead_part now b r le (Test Dur c (Lit (value.Int most))) e = dead_bound now b r le c most e
dead_part now b r le (Test (Event place) c (Lit v)) e = not_both (meets_bound now b (fixed place c v)) (fixed_met now b place c v) e
dead_part now b r le (Test (Lit v) c (Event place)) e = not_both (meets_bound now b (fixed place (exchanged c) v)) (fixed_met now b place (exchanged c) v) e
dead_part now b r le (Test (Event place) c (Binding bound)) e = not_both (meets_bound now b (keyed place c bound)) (keyed_met now b place c bound) e
dead_part now b r le (Test (Binding bound) c (Event place)) e = not_both (meets_bound now b (keyed place c bound)) (keyed_met now b place c bound) e
dead_part now b r le q e = absurd (cc)

dead_bound_later : (now later : ℕ) (b : TupleView) → now ≤ later → (c : Cmp) (most : ℤ) → meets_bound now b (bounded c most) ≡ false → meets_bound later b (bounded c most) ≡ false
dead_bound_later now later b le cmp.Lt most e = not_lower now later b.from most le e
dead_bound_later now later b le cmp.Le most e = still_beyond now later b.from most le e
dead_bound_later now later b le c most e = absurd (cc)

dead_later : (now later : ℕ) (b : TupleView) → now ≤ later → (q : Pr) → meets_bound now b (class_of q) ≡ false → meets_bound later b (class_of q) ≡ false
dead_later now later b le (Test Dur c (Lit (value.Int most))) e = dead_bound_later now later b le c most e
dead_later now later b le (Test (Event place) c (Lit v)) e = not_both (meets_bound now b (fixed place c v)) (fixed_met now b place c v) e
dead_later now later b le (Test (Lit v) c (Event place)) e = not_both (meets_bound now b (fixed place (exchanged c) v)) (fixed_met now b place (exchanged c) v) e
dead_later now later b le (Test (Event place) c (Binding bound)) e = not_both (meets_bound now b (keyed place c bound)) (keyed_met now b place c bound) e
dead_later now later b le (Test (Binding bound) c (Event place)) e = not_both (meets_bound now b (keyed place c bound)) (keyed_met now b place c bound) e
dead_later now later b le q e = absurd (cc)

-- where one part fails, another test that fails with it fails
module _ {X : Type 0} (p q : X → Bool) (falls : (x : X) → p x ≡ false → q x ≡ false) where
  all_falls : (xs : List X) → list_all p xs ≡ false → list_all q xs ≡ false
  all_falls [] e = absurd (cc)
  all_falls (x ∷ xs) e = go (all_falls xs) (p x) refl e
    where
      go : (list_all p xs ≡ false → list_all q xs ≡ false) → (b : Bool) → p x ≡ b → (b && list_all p xs) ≡ false → (q x && list_all q xs) ≡ false
      go rest true is e = ap (λ b. q x && b) (rest e) ∙ and-false (q x)
      go rest false is e = ap (λ b. b && list_all q xs) (falls x is)

-- no later event is eligible for a binding that is dead
pub dead_stay_dead : (now : ℕ) (p : List Pr) (b r : TupleView) → is_alive now p b ≡ false → now ≤ r.at → is_eligible p b r ≡ false
dead_stay_dead now p b r e le =
    ap (λ t. nat_lt b.at r.from && t) (all_falls (λ part. meets_bound now b (class_of part)) (λ q. truth q r (Some b)) (dead_part now b r le) p e) ∙ and-false (nat_lt b.at r.from)

-- what is dead stays dead
pub dead_on : (now later : ℕ) (p : List Pr) (b : TupleView) → now ≤ later → is_alive now p b ≡ false → is_alive later p b ≡ false
dead_on now later p b le e = all_falls (λ part. meets_bound now b (class_of part)) (λ part. meets_bound later b (class_of part)) (dead_later now later b le) p e

-- those that are alive later are those of them that are alive earlier
pub alive_alive : (now later : ℕ) (p : List Pr) (xs : List Instance) → now ≤ later → alive_instances later p (alive_instances now p xs) ≡ alive_instances later p xs
alive_alive now later p xs le =
    filter-filter (lives later) (lives now) xs
    ∙ filter_agree (λ i. lives now i && lives later i) (lives later) (λ i. go i (lives now i) refl) xs
  where
    lives : ℕ → Instance → Bool
    lives time instance = is_alive time p instance.tuple

    go : (i : Instance) (t : Bool) → is_alive now p i.tuple ≡ t → (t && is_alive later p i.tuple) ≡ is_alive later p i.tuple
    go i true e = refl
    go i false e = sym (dead_on now later p i.tuple le e)

-- bags are empty together
empty_permuted : (xs ys : List TupleView) → IsPermutation xs ys → is_empty xs ≡ is_empty ys
empty_permuted xs ys h = go xs ys (length_permutation xs ys h)
  where
    go : (xs ys : List TupleView) → length ys ≡ length xs → is_empty xs ≡ is_empty ys
    go [] [] e = refl
    go [] (y ∷ ys) e = absurd (omega arith)
    go (x ∷ xs) [] e = absurd (omega arith)
    go (x ∷ xs) (y ∷ ys) e = refl

-- a purge that is done once more changes nothing
alive_twice : (now : ℕ) (p : List Pr) (xs : List Instance) → alive_instances now p (alive_instances now p xs) ≡ alive_instances now p xs
alive_twice now p xs = alive_alive now now p xs (omega arith)

module _ (now : ℕ) (p : List Pr) where
  abbrev lives : Instance → Bool
  lives instance = is_alive now p instance.tuple

  -- a store with all that is alive, and nothing but what waits, holds what waits
  pub between_holds : (store waits : List Instance) → IsWithin (alive_instances now p waits) store → IsWithin store waits → IsStored now p store waits
  between_holds store waits low high = record { within = high; alive_same = permuted_from (sym (append-nil (alive_instances now p store)) ∙ ap (λ ys. alive_instances now p store ++ ys) (sym none)) over }
    where
      over : IsPermutation (alive_instances now p store ++ alive_instances now p high.0) (alive_instances now p waits)
      over = permuted_from (sym (filter-append lives store high.0)) (filter_permuted lives (store ++ high.0) waits high.1)

      under : IsPermutation (alive_instances now p waits ++ alive_instances now p low.0) (alive_instances now p store)
      under =
          permuted_from (ap (λ ys. ys ++ alive_instances now p low.0) (sym (alive_twice now p waits)) ∙ sym (filter-append lives (alive_instances now p waits) low.0))
          (filter_permuted lives (alive_instances now p waits ++ low.0) store low.1)

      none : alive_instances now p high.0 ≡ []
      none =
          no_length (alive_instances now p high.0)
          (omega (arith, length_permutation _ _ over, length_permutation _ _ under, length-append (alive_instances now p store) (alive_instances now p high.0), length-append (alive_instances now p waits) (alive_instances now p low.0)))

  -- and a store that holds it has all that is alive
  pub holds_between : (store waits : List Instance) → IsStored now p store waits → IsWithin (alive_instances now p waits) store
  holds_between store waits h = (
    filter (λ i. not (lives i)) store,
    IsPermutation-trans _ _ _ (IsPermutation-append_left (filter (λ i. not (lives i)) store) (alive_instances now p waits) (alive_instances now p store) (IsPermutation-sym _ _ h.alive_same))
        (IsPermutation-sym _ _ (IsPermutation-filter_both lives (λ i. not (lives i)) (λ _. refl) store)),
  )

-- over the same tuples, up to order
module _ (p : List Pr) (turn : Option Turn) (news new : List TupleView) (h : IsPermutation news new) where
  -- what a binding gives
  pub taken_permuted : (b : TupleView) → IsPermutation (taken p turn news b) (taken p turn new b)
  taken_permuted b = go turn
    where
      found : IsPermutation (filter (is_eligible p b) news) (filter (is_eligible p b) new)
      found = filter_permuted (is_eligible p b) news new h

      go : (turn : Option Turn) → IsPermutation (taken p turn news b) (taken p turn new b)
      go None = IsPermutation-map (joined b) _ _ found
      go (Some t) = IsPermutation-map (rebound t.set.parts b) _ _ (filter_permuted (λ r. all_true t.on r (Some b)) _ _ found)

  -- and what the instances of a store give
  pub took_permuted : (store : List Instance) → IsPermutation (took p turn news store) (took p turn new store)
  took_permuted store =
      flat_map_alike (taken_from p turn news) (taken_from p turn new) store
      (every (λ i. IsPermutation (taken_from p turn news i) (taken_from p turn new i)) (λ i. IsPermutation-map (began i.first) (taken p turn news i.tuple) (taken p turn new i.tuple) (taken_permuted i.tuple)) store)

  -- what is left of a store
  pub left_alike : (xs : List Instance) → unmatched_after p news xs ≡ unmatched_after p new xs
  left_alike xs = filter_agree (λ i. is_unmet p news i.tuple) (λ i. is_unmet p new i.tuple) (λ i. empty_permuted _ _ (filter_permuted (is_eligible p i.tuple) news new h)) xs

-- what a store gives
module _ (now : ℕ) (p : List Pr) (turn : Option Turn) where
  -- instances that aren't alive give nothing
  took_alive : (new : List TupleView) (xs : List Instance) → All (λ r. now ≤ r.at) new → took p turn new xs ≡ took p turn new (alive_instances now p xs)
  took_alive new xs late = flat_map-filter (lives now p) (λ _. Unit {0}) (taken_from p turn new) (taken_from p turn new) (λ i _ _. refl) (λ i _ e. ap (map (began i.first)) (none i.tuple e turn)) xs (λ _ _ _. tt)
    where
      unmet : (b : TupleView) → is_alive now p b ≡ false → filter (is_eligible p b) new ≡ []
      unmet b e = filter_false (is_eligible p b) new (All-weaker (λ r. now ≤ r.at) (λ r. is_eligible p b r ≡ false) (λ r le. dead_stay_dead now p b r e le) new late)

      none : (b : TupleView) → is_alive now p b ≡ false → (turn : Option Turn) → taken p turn new b ≡ []
      none b e None = ap (map (joined b)) (unmet b e)
      none b e (Some t) = ap (λ rs. map (rebound t.set.parts b) (filter (λ r. all_true t.on r (Some b)) rs)) (unmet b e)

  -- a store gives what the waiting instances give
  pub store_gives : (new news : List TupleView) (store waits : List Instance) → All (λ r. now ≤ r.at) new → IsPermutation news new → IsStored now p store waits → IsPermutation (took p turn news store) (took p turn new waits)
  store_gives new news store waits late h holds =
      IsPermutation-trans _ _ _
      (took_permuted p turn news new h store)
      (permuted_from (took_alive new store late)
      (permuted_to (flat_map_permuted (taken_from p turn new) (alive_instances now p store) (alive_instances now p waits) holds.alive_same) (sym (took_alive new waits late))))

  again_permuted : (xs ys : List Instance) → IsPermutation xs ys → IsPermutation (again turn xs) (again turn ys)
  again_permuted xs ys h = go turn
    where
      go : (turn : Option Turn) → IsPermutation (again turn xs) (again turn ys)
      go None = IsPermutation-refl []
      go (Some t) = h

  -- what is left of such a store is such a store of what is left
  left_alive : (later : ℕ) → now ≤ later → (new : List TupleView) (store waits : List Instance) → IsStored now p store waits
      → IsPermutation (alive_instances later p (unmatched_after p new store)) (alive_instances later p (unmatched_after p new waits))
  left_alive later le new store waits holds =
      permuted_from (swapped store) (permuted_to (filter_permuted stands _ _ (filter_permuted (lives later p) _ _ holds.alive_same)) (sym (swapped waits)))
    where
      stands : Instance → Bool
      stands i = is_unmet p new i.tuple

      swapped : (xs : List Instance) → alive_instances later p (unmatched_after p new xs) ≡ filter stands (alive_instances later p (alive_instances now p xs))
      swapped xs = filter_swap (lives later p) stands xs ∙ ap (filter stands) (sym (alive_alive now later p xs le))

  -- and keeps what they keep
  pub store_keeps : (later : ℕ) (new news : List TupleView) (entered enters store waits after : List Instance) → now ≤ later → All (λ r. now ≤ r.at) new → IsPermutation news new → IsPermutation enters entered
      → IsStored now p store waits → IsPermutation after (stepped p turn new entered waits) → IsStored later p (stepped p turn news enters store) after
  store_keeps later new news entered enters store waits after le late h k holds is = record {
    within = (
      unmatched_after p new holds.within.0,
      IsPermutation-trans _ _ _ (IsPermutation-append_comm (stepped p turn news enters store) (unmatched_after p new holds.within.0))
          (IsPermutation-trans _ _ _ (permuted_is (sym (append_assoc (unmatched_after p new holds.within.0) (unmatched_after p news store) (enters ++ again turn (took p turn news store)))))
          (IsPermutation-trans _ _ _ (IsPermutation-append _ _ _ _ parts comes) (IsPermutation-sym _ _ is))),
    );
    alive_same =
        IsPermutation-trans _ _ _
        (permuted_from (filter-append (lives later p) (unmatched_after p news store) (enters ++ again turn (took p turn news store)))
        (permuted_to
        (IsPermutation-append _ _ _ _
        (permuted_from (ap (alive_instances later p) (left_alike p turn news new h store)) (left_alive later le new store waits holds))
        (filter_permuted (lives later p) _ _ comes))
        (sym (filter-append (lives later p) (unmatched_after p new waits) (entered ++ again turn (took p turn new waits))))))
        (filter_permuted (lives later p) _ _ (IsPermutation-sym _ _ is));
  }
    where
      comes : IsPermutation (enters ++ again turn (took p turn news store)) (entered ++ again turn (took p turn new waits))
      comes = IsPermutation-append _ _ _ _ k (again_permuted _ _ (store_gives new news store waits late h holds))

      parts : IsPermutation (unmatched_after p new holds.within.0 ++ unmatched_after p news store) (unmatched_after p new waits)
      parts =
          permuted_from (ap (λ ys. unmatched_after p new holds.within.0 ++ ys) (left_alike p turn news new h store))
          (IsPermutation-trans _ _ _ (IsPermutation-append_comm (unmatched_after p new holds.within.0) (unmatched_after p new store))
          (permuted_from (sym (filter-append (λ i. is_unmet p new i.tuple) store holds.within.0))
          (filter_permuted (λ i. is_unmet p new i.tuple) (store ++ holds.within.0) waits holds.within.1)))
