-- The instances that an event may match, among those that stand key by key.
use Rattle.std.proofs.Common.{◌≡◌, ◌∙◌, ◌==◌, sym, ap, refl, subst, eqb-true, ℕ, ℤ, Bool, true, false, not, ◌&&◌, ◌||◌, cond, get_or, List, [], ◌∷◌, ◌++◌, is_some}
use Rattle.std.specs.Prelude.{Option, Some, None}
use Rattle.std.specs.declared.cmp.Ordering.{Ordering}
use Rattle.std.specs.declared.cmp.Ordering.TheVariants.{Less, Equal, Greater}
use Rattle.std.specs.Cmp.{tied_itself}
use Rattle.std.specs.Ordering.{int_cmp, is_eq, nat_cmp, ordering_then}
use Rattle.std.specs.Option.{unwrap_or}
use Rattle.std.specs.List.{All, AllByRecursion, IsDistinct, filter, flat_map, list_any}
use Rattle.std.specs.Map.{keys_of, lookup}
use Rattle.std.proofs.lemmas.Bool.{eq-eqb}
use Rattle.std.proofs.lemmas.Cmp.{nat_cmp_total}
use Rattle.std.proofs.lemmas.List.{append-nil}
use Rattle.std.proofs.lemmas.List.Elements.{All-head, All-tail}
use Rattle.std.proofs.lemmas.List.Sorted.{list_any-IsPermutation}
use Rattle.std.proofs.lemmas.Map.Keys.{IsDistinct-head, IsDistinct-tail}
use Rattle.std.proofs.lemmas.Map.Lookups.{exact_unsigned}
use Rattle.std.proofs.lemmas.Map.Made.{is_some-lookup}
use Rattle.event_types.specs.Order.{value_cmp}
use Rattle.event_types.specs.OrderLaws.{value_total}
use Rattle.event_types.specs.Tuple.{TupleView}
use Rattle.event_types.specs.declared.comparison.Cmp.TheVariants as cmp
use Rattle.event_types.specs.declared.value.Value.{Value}
use Rattle.event_types.proofs.SortLemmas.{sort_permutes}
use Rattle.event_types.specs.declared.value.Value.TheVariants.{Int, Over, Text, Dec}
use Rattle.semantics.specs.Nexts.{is_eligible}
use Rattle.semantics.specs.Scalars.{Pr}
use Rattle.semantics.specs.Truth.{is_met, order_of}
use Rattle.semantics.specs.Values.{value_at}
use Rattle.semantics.proofs.ReportLemmas.{filter_all}
use Rattle.instances.specs.declared.instance.Instance.{Instance}
use Rattle.scalar_expr.proofs.Bags.{filter-flat_map}
use Rattle.instances.specs.Keys.{Key, candidates_of, is_matched, key_matches, unmatched}
use Rattle.binding_index.specs.Buckets.{AreKeyed, Bucket, instances_in_order, instances_at, is_over, keys_in_order}
use Rattle.binding_index.specs.Among.{is_key}
use Rattle.binding_index.proofs.BucketLemmas.{distinct_in_order, filter_in_order, keyed_at}
use Rattle.binding_index.proofs.EqualityLemmas.{key_decides, key_itself}

module _ {Y : Type 0} (f : Value → List Y) (key : Value) (none : (k : Value) → is_key key k ≡ false → f k ≡ []) where
  flat_none : (ks : List Value) → AllByRecursion (λ k. is_key key k ≡ false) ks → flat_map f ks ≡ []
  flat_none [] h = refl
  flat_none (k ∷ ks) h = λ i. none k h.0 i ++ flat_none ks h.1 i

  -- of distinct keys one alone is looked at
  flat_one : (ks : List Value) → IsDistinct is_key ks → flat_map f ks ≡ cond (list_any (is_key key) ks) (f key) []
  flat_one [] d = refl
  flat_one (k ∷ ks) d = go (flat_one ks (IsDistinct-tail is_key k ks d)) (is_key key k) refl
    where
      go : flat_map f ks ≡ cond (list_any (is_key key) ks) (f key) [] → (t : Bool) → is_key key k ≡ t → f k ++ flat_map f ks ≡ cond (t || list_any (is_key key) ks) (f key) []
      go rest true e =
          let same : key ≡ k = (key_decides key k).0 e in
          let others = flat_none ks (subst (λ (k' : Value). AllByRecursion (λ y. is_key k' y ≡ false) ks) (sym same) (IsDistinct-head is_key k ks d)) in
          ap (λ ys. f k ++ ys) others ∙ append-nil (f k) ∙ ap f (sym same)
      go rest false e = ap (λ ys. ys ++ flat_map f ks) (none k e) ∙ rest

-- a test that fails for the instances of all keys but one keeps of them what it keeps of that key
pub filter_one : (test : Instance → Bool) (bs : List Bucket) (key : Value) → IsDistinct is_key (keys_of bs) → ((k : Value) → is_key key k ≡ false → filter test (instances_at bs k) ≡ []) → filter test (instances_in_order bs) ≡ filter test (instances_at bs key)
filter_one test bs key d none =
    filter-flat_map test (instances_at bs) (keys_in_order bs)
    ∙ flat_one (λ k. filter test (instances_at bs k)) key none (keys_in_order bs) (distinct_in_order bs d)
    ∙ ap (λ b. cond b (filter test (instances_at bs key)) []) (list_any-IsPermutation (is_key key) (keys_in_order bs) (keys_of bs) (sort_permutes value_cmp value_total (keys_of bs)) ∙ sym (is_some-lookup (is_key key) bs))
    ∙ there (lookup (is_key key) bs)
  where
    there : (o : Option (List Instance)) → cond (is_some o) (filter test (unwrap_or o [])) [] ≡ filter test (unwrap_or o [])
    there None = refl
    there (Some is) = refl

-- two decimals are met as equal where scale and units are
decimals_met : (s t : ℕ) (x y : ℤ) → is_met cmp.Eq (order_of (Dec s x) (Dec t y)) ≡ is_key (Dec s x) (Dec t y)
decimals_met s t x y = by_scale (s == t) refl (nat_cmp s t) refl
  where
    by_scale : (b : Bool) → (s == t) ≡ b → (o : Ordering) → nat_cmp s t ≡ o → is_met cmp.Eq (cond b (Some (int_cmp x y)) None) ≡ is_eq (ordering_then o (int_cmp x y))
    by_scale true is Equal tie = refl
    by_scale true is Less tie = let same : nat_cmp s t ≡ Equal = ap (nat_cmp s) (sym (eqb-true s t is)) ∙ tied_itself nat_cmp_total s in cc
    by_scale true is Greater tie = let same : nat_cmp s t ≡ Equal = ap (nat_cmp s) (sym (eqb-true s t is)) ∙ tied_itself nat_cmp_total s in cc
    by_scale false is Less tie = refl
    by_scale false is Greater tie = refl
    by_scale false is Equal tie = let yes : (s == t) ≡ true = eq-eqb s t (exact_unsigned s t tie) in cc

-- two values other than OVER are met as equal where they are one
met_is : (x y : Value) → is_over x ≡ false → is_met cmp.Eq (order_of x y) ≡ is_key x y
met_is (Int x) (Int y) e = refl
met_is (Text x) (Text y) e = refl
met_is (Dec s x) (Dec t y) e = decimals_met s t x y
met_is Over y e = cc
met_is x y e = refl

-- and OVER is met with none
met_over : (x y : Value) → is_over x ≡ true → is_met cmp.Eq (order_of x y) ≡ false
met_over Over y e = refl
met_over x y e = cc

filter_none : (test : Instance → Bool) (xs : List Instance) → All (λ x. test x ≡ false) xs → filter test xs ≡ []
filter_none test [] all = refl
filter_none test (x ∷ xs) all =
    ap (λ b. cond b (x ∷ filter test xs) (filter test xs)) (All-head (λ x. test x ≡ false) x xs all) ∙ filter_none test xs (All-tail (λ x. test x ≡ false) x xs all)

filter_alike : (p q : Instance → Bool) (xs : List Instance) → All (λ x. p x ≡ q x) xs → filter p xs ≡ filter q xs
filter_alike p q [] all = refl
filter_alike p q (x ∷ xs) all =
    let one = All-head (λ x. p x ≡ q x) x xs all in
    let more = filter_alike p q xs (All-tail (λ x. p x ≡ q x) x xs all) in
    λ i. cond (one i) (x ∷ more i) (more i)

module _ (key : Key) (event : TupleView) (bs : List Bucket) (keyed : AreKeyed key.binding bs) where
  -- the value of the event's key
  abbrev here : Value
  here = value_at event key.event

  -- whether the key part holds, for an instance of a key
  met_at : is_over here ≡ false → (k : Value) → All (λ (n : Instance). key_matches (Some key) event n.tuple ≡ is_key here k) (instances_at bs k)
  met_at over k = λ j d lt. met_is here _ over ∙ ap (is_key here) (keyed_at key.binding bs keyed k j d lt)

  module _ (distinct : IsDistinct is_key (keys_of bs)) where
    -- the candidates of an event are the instances of its key
    pub candidates_are : is_over here ≡ false → instances_at bs here ≡ candidates_of (Some key) event (instances_in_order bs)
    candidates_are over =
        let test : Instance → Bool = λ n. key_matches (Some key) event n.tuple in
        sym (filter_all test (instances_at bs here) (λ j d lt. met_at over here j d lt ∙ key_itself here))
        ∙ sym (filter_one test bs here distinct (λ k e. filter_none test (instances_at bs k) (λ j d lt. met_at over k j d lt ∙ e)))

    -- an event whose key is OVER has none
    pub no_candidates : is_over here ≡ true → [] ≡ candidates_of (Some key) event (instances_in_order bs)
    no_candidates over = sym (filter_none (λ n. key_matches (Some key) event n.tuple) (instances_in_order bs) (λ j d lt. met_over here _ over))

  module _ (choose : List Pr) where
    abbrev stays : Instance → Bool
    stays n = not (is_matched (Some key) choose event n)

    abbrev unmet : Instance → Bool
    unmet n = not (is_eligible choose n.tuple event)

    -- the instances for which the key part holds stay where the event isn't eligible, and the others stay
    stay_if : (xs : List Instance) → All (λ (n : Instance). key_matches (Some key) event n.tuple ≡ true) xs → filter stays xs ≡ filter unmet xs
    stay_if xs all = filter_alike stays unmet xs (λ j d lt. ap (λ b. not (b && is_eligible choose (get_or xs j d).tuple event)) (all j d lt))

    stay_all : (xs : List Instance) → All (λ (n : Instance). key_matches (Some key) event n.tuple ≡ false) xs → filter stays xs ≡ xs
    stay_all xs all = filter_all stays xs (λ j d lt. ap (λ b. not (b && is_eligible choose (get_or xs j d).tuple event)) (all j d lt))

    -- of the instances of the event's key those stay for which it isn't eligible, and all others
    pub stay_at : is_over here ≡ false → (k : Value) → filter stays (instances_at bs k) ≡ cond (is_key here k) (filter unmet (instances_at bs here)) (instances_at bs k)
    stay_at over k = go (is_key here k) refl
      where
        go : (t : Bool) → is_key here k ≡ t → filter stays (instances_at bs k) ≡ cond t (filter unmet (instances_at bs here)) (instances_at bs k)
        go true e = stay_if (instances_at bs k) (λ j d lt. met_at over k j d lt ∙ e) ∙ ap (λ k'. filter unmet (instances_at bs k')) (sym ((key_decides here k).0 e))
        go false e = stay_all (instances_at bs k) (λ j d lt. met_at over k j d lt ∙ e)

    -- where no instance has the event's key, all stay
    pub all_stay : is_over here ≡ false → instances_at bs here ≡ [] → instances_in_order bs ≡ unmatched (Some key) choose event (instances_in_order bs)
    all_stay over none = filter_in_order stays bs bs refl (λ k. sym (stay_at over k ∙ same k (is_key here k) refl))
      where
        same : (k : Value) (t : Bool) → is_key here k ≡ t → cond t (filter unmet (instances_at bs here)) (instances_at bs k) ≡ instances_at bs k
        same k true e = ap (filter unmet) none ∙ sym (ap (instances_at bs) (sym ((key_decides here k).0 e)) ∙ none)
        same k false e = refl

    -- where the event's key is OVER, all stay
    pub over_stays : is_over here ≡ true → instances_in_order bs ≡ unmatched (Some key) choose event (instances_in_order bs)
    over_stays over = sym (stay_all (instances_in_order bs) (λ j d lt. met_over here (value_at (get_or (instances_in_order bs) j d).tuple key.binding) over))
