-- The buckets of a store after a purge.
use Rattle.std.proofs.Common.{◌≡◌, ◌∙◌, sym, ap, refl, subst, ℕ, zero, suc, ◌<◌, ◌≤◌, ◌↔◌, Bool, true, length, get_or, take, List, [], ◌∷◌, Any, Contains, arith}
use Rattle.std.specs.List.{All, IsDistinct, filter, flat_map}
use Rattle.std.specs.Map.{keys_of}
use Rattle.std.proofs.lemmas.List.{get_or-take, length-take-le}
use Rattle.std.proofs.lemmas.List.Elements.{All-nil, All-append, All-contains, All-contains_itself, All-filter, All-head, All-map, All-same, All-tail, Contains-append_left, Contains-append_right, filter_passes}
use Rattle.std.proofs.lemmas.List.Sorted.{All-permutation, Contains-permutation}
use Rattle.std.proofs.lemmas.Map.Keys.{IsDistinct-IsPermutation}
use Rattle.std.proofs.lemmas.Map.Made.{IsDistinct-keys_filter}
use Rattle.event_types.specs.Order.{value_cmp}
use Rattle.event_types.specs.OrderLaws.{value_exact, value_total}
use Rattle.event_types.specs.declared.value.Value.{Value}
use Rattle.event_types.proofs.SortLemmas.{sort_permuted}
use Rattle.scalar_expr.proofs.Bags.{filter-flat_map, flat_map_each}
use Rattle.semantics.specs.Values.{value_at}
use Rattle.instances.specs.declared.instance.Instance.{Instance}
use Rattle.binding_index.specs.Buckets.{AreBuckets, AreKeyed, AreStarts, Bucket, IsKeyed, IsPurged, IsSplit, StartFrom, StartsFrom, instances_in_order, instances_at, keys_in_order}
use Rattle.binding_index.specs.Among.{is_key}
use Rattle.binding_index.specs.Entries.{has_any, is_filled}
use Rattle.binding_index.proofs.BucketLemmas.{found_own, in_order_permuted, kept_in_order, keyed_at}
use Rattle.binding_index.proofs.EqualityLemmas.{key_flips}
use Rattle.binding_index.proofs.NotedLemmas.{any_noted, none_noted}
use Rattle.binding_index.proofs.SplitLemmas.{all_filled, first_filled}
use Rattle.binding_index.proofs.StoreLemmas.{from_order, to_order}

-- what holds of the instances of each bucket holds of all
all_flat : (P : Instance → Type 0) (bs : List Bucket) → All (λ b. All P b.1) bs → All P (flat_map (λ b. b.1) bs)
all_flat P [] all = All-nil P
all_flat P (b ∷ bs) all = All-append P b.1 (flat_map (λ c. c.1) bs) (All-head (λ (c : Bucket). All P c.1) b bs all) (all_flat P bs (All-tail (λ (c : Bucket). All P c.1) b bs all))

-- an instance of a bucket is one of all
in_flat : (bs : List Bucket) (n : ℕ) (d : Bucket) (x : Instance) → n < length bs → Contains (get_or bs n d).1 x → Contains (flat_map (λ b. b.1) bs) x
in_flat [] n d x lt h = absurd (omega arith)
in_flat (b ∷ bs) zero d x lt h = Contains-append_left b.1 (flat_map (λ c. c.1) bs) x h
in_flat (b ∷ bs) (suc n) d x lt h = Contains-append_right b.1 (flat_map (λ c. c.1) bs) x (in_flat bs n d x (omega arith) h)

-- no instance in order starts before the time before which none of a bucket starts
pub start_in_order : (oldest : ℕ) (bs : List Bucket) → IsDistinct is_key (keys_of bs) → StartFrom oldest bs → All (λ instance. oldest ≤ instance.tuple.from) (instances_in_order bs)
start_in_order oldest bs d all = All-permutation (λ instance. oldest ≤ instance.tuple.from) _ _ (in_order_permuted bs d) (all_flat (λ instance. oldest ≤ instance.tuple.from) bs all)

-- each key of buckets
keys_among : (bs : List Bucket) → All (λ b. Contains (keys_of bs) b.0) bs
keys_among bs = go bs (All-contains_itself (keys_of bs))
  where
    go : (cs : List Bucket) → All (Contains (keys_of bs)) (keys_of cs) → All (λ b. Contains (keys_of bs) b.0) cs
    go [] all = All-nil _
    go (c ∷ cs) all = All-cons-here c cs (All-head (Contains (keys_of bs)) c.0 (keys_of cs) all) (go cs (All-tail (Contains (keys_of bs)) c.0 (keys_of cs) all))
      where
        All-cons-here : (c : Bucket) (cs : List Bucket) → Contains (keys_of bs) c.0 → All (λ b. Contains (keys_of bs) b.0) cs → All (λ b. Contains (keys_of bs) b.0) (c ∷ cs)
        All-cons-here c cs one all zero d lt = one
        All-cons-here c cs one all (suc k) d lt = all k d (omega arith)

-- buckets without those that are empty
module _ (place : ℕ) (bs : List Bucket) (keyed : AreKeyed place bs) (distinct : IsDistinct is_key (keys_of bs)) where
  abbrev left : List Bucket
  left = filter is_filled bs

  -- no key comes twice among the buckets that have instances
  pub left_distinct : IsDistinct is_key (keys_of left)
  left_distinct = IsDistinct-keys_filter is_key is_filled bs distinct

  -- each of their instances stands under its key
  pub left_keyed : AreKeyed place left
  left_keyed = All-filter is_filled (IsKeyed place) bs keyed

  -- an instance that has the key
  abbrev Held : Value → Type 0
  Held key = Any (λ instance. value_at instance.tuple place ≡ key) (instances_in_order left)

  first_of : (is : List Instance) (key : Value) → has_any is ≡ true → All (λ (instance : Instance). value_at instance.tuple place ≡ key) is → ((x : Instance) → Contains is x → Contains (instances_in_order left) x) → Held key
  first_of [] key some all into = cc
  first_of (x ∷ is) key some all into = let h = into x (0, omega arith, refl) in (h.0, x, h.1, h.2, all 0 x (omega arith))

  -- each of their keys was there, and an instance has it
  left_held : All (λ b. Contains (keys_of bs) b.0 × Held b.0) left
  left_held k d lt = (
    All-filter is_filled (λ b. Contains (keys_of bs) b.0) bs (keys_among bs) k d lt,
    first_of (get_or left k d).1 (get_or left k d).0 (filter_passes is_filled bs k d lt) (left_keyed k d lt)
        (λ x h. Contains-permutation _ _ x (in_order_permuted left left_distinct) (in_flat left k d x lt h)),
  )

  -- and each key that an instance has is theirs
  held_left : (key : Value) → Held key → Contains (keys_of left) key
  held_left key h =
      subst (Contains (keys_of left)) h.4
      (All-contains (λ instance. Contains (keys_of left) (value_at instance.tuple place)) (instances_in_order left) h.1
      (All-permutation (λ instance. Contains (keys_of left) (value_at instance.tuple place)) _ _ (in_order_permuted left left_distinct)
      (all_flat (λ instance. Contains (keys_of left) (value_at instance.tuple place)) left (λ k d lt j e in'. subst (Contains (keys_of left)) (sym (left_keyed k d lt j e in')) (keys_among left k d lt))))
      (h.0, h.2, h.3))

  -- the keys that stay are those that were ready and that an instance has
  pub left_ready : (key : Value) → Contains (keys_in_order left) key ↔ (Contains (keys_in_order bs) key × Held key)
  left_ready key = (
    λ h. let both = at (from_order left key h) in (to_order bs key both.0, both.1),
    λ h. to_order left key (held_left key h.1),
  )
    where
      at : Contains (keys_of left) key → Contains (keys_of bs) key × Held key
      at h = All-contains (λ k. Contains (keys_of bs) k × Held k) (keys_of left) key (All-map (λ k. Contains (keys_of bs) k × Held k) (λ b. b.0) left left_held) h

-- where the buckets without instances are cut off
module _ (place filled : ℕ) (starts : List ℕ) (bs cs : List Bucket) (h : AreBuckets place [] filled starts bs) (cut : cs ≡ take filled bs) where
  same : left place bs h.keyed h.distinct ≡ cs
  same = sym (cut ∙ first_filled filled bs (none_noted filled bs h.split))

  long : length cs ≡ filled
  long = ap length cut ∙ length-take-le filled bs h.within

  -- what is left are the buckets of a store
  pub cut_buckets : AreBuckets place [] filled starts cs
  cut_buckets = record {
    distinct = subst (λ (xs : List Bucket). IsDistinct is_key (keys_of xs)) same (left_distinct place bs h.keyed h.distinct);
    keyed = subst (AreKeyed place) same (left_keyed place bs h.keyed h.distinct);
    start = λ n d lt. subst (StartsFrom (get_or starts n 0)) (sym (ap (λ (xs : List Bucket). get_or xs n d) cut ∙ get_or-take filled bs n d (omega (arith, lt, long)))) (h.start n d (let within = h.within in omega (arith, lt, long, within)));
    room = let within = h.within in let room = h.room in omega (arith, long, within, room);
    within = omega (arith, long);
    split = any_noted [] filled cs (subst (λ n. IsSplit n cs) long (subst (λ (xs : List Bucket). IsSplit (length xs) xs) same (all_filled bs)));
  }

  -- no instance goes with those that are cut off
  pub cut_in_order : instances_in_order cs ≡ instances_in_order bs
  cut_in_order = ap instances_in_order (sym same) ∙ kept_in_order bs h.distinct

  -- the keys that stay are those that were ready and that an instance has
  pub cut_ready : (key : Value) → Contains (keys_in_order cs) key ↔ (Contains (keys_in_order bs) key × Any (λ instance. value_at instance.tuple place ≡ key) (instances_in_order cs))
  cut_ready key =
      subst (λ (xs : List Bucket). Contains (keys_in_order xs) key ↔ (Contains (keys_in_order bs) key × Any (λ instance. value_at instance.tuple place ≡ key) (instances_in_order xs))) same (left_ready place bs h.keyed h.distinct key)

-- where instances expired, they were taken out
module _ (place : ℕ) (noted : List ℕ) (filled : ℕ) (before : List ℕ) (test : Instance → Bool) (bs ds : List Bucket) (h : AreBuckets place noted filled before bs) (purged : IsPurged test bs ds) where
  purged_distinct : IsDistinct is_key (keys_of ds)
  purged_distinct = IsDistinct-IsPermutation is_key key_flips (keys_of bs) (keys_of ds) purged.same_keys h.distinct

  -- what is left are the buckets of a store
  pub purged_buckets : (n : ℕ) (starts : List ℕ) → AreStarts starts ds → length ds ≤ length starts → n ≤ length ds → IsSplit n ds → AreBuckets place [] n starts ds
  purged_buckets n starts start room within split = record {
    distinct = purged_distinct;
    keyed = λ k d lt.
        All-same (λ instance. value_at instance.tuple place ≡ (get_or ds k d).0) _ _ (sym (found_own ds purged_distinct k d lt) ∙ purged.each (get_or ds k d).0)
        (All-filter test (λ instance. value_at instance.tuple place ≡ (get_or ds k d).0) _ (keyed_at place bs h.keyed (get_or ds k d).0));
    start = start;
    room = room;
    within = within;
    split = any_noted [] n ds split;
  }

  -- the keys are the same
  pub purged_keys : keys_in_order ds ≡ keys_in_order bs
  purged_keys = sym (sort_permuted value_cmp value_total value_exact (keys_of bs) (keys_of ds) purged.same_keys)

  -- of the instances those stay that pass the test
  pub purged_in_order : instances_in_order ds ≡ filter test (instances_in_order bs)
  purged_in_order =
      flat_map_each (instances_at ds) (λ key. filter test (instances_at bs key)) purged.each (keys_in_order ds)
      ∙ ap (flat_map (λ key. filter test (instances_at bs key))) purged_keys ∙ sym (filter-flat_map test (instances_at bs) (keys_in_order bs))

-- what is left of it, where the buckets without instances are then cut off
module _ (place : ℕ) (noted : List ℕ) (filled : ℕ) (before : List ℕ) (test : Instance → Bool) (bs ds cs : List Bucket) (h : AreBuckets place noted filled before bs) (purged : IsPurged test bs ds) (n : ℕ) (starts : List ℕ) (start : AreStarts starts ds) (room : length ds ≤ length starts) (within : n ≤ length ds) (split : IsSplit n ds) (cut : cs ≡ take n ds) where
  are : AreBuckets place [] n starts ds
  are = purged_buckets place noted filled before test bs ds h purged n starts start room within split

  -- it is the buckets of a store
  pub left_over : AreBuckets place [] n starts cs
  left_over = cut_buckets place n starts ds cs are cut

  -- its instances are those that pass the test
  pub left_in_order : instances_in_order cs ≡ filter test (instances_in_order bs)
  left_in_order = cut_in_order place n starts ds cs are cut ∙ purged_in_order place noted filled before test bs ds h purged

  -- the keys that stay are those that were ready and that an instance has which stays
  pub left_over_ready : (key : Value) → Contains (keys_in_order cs) key ↔ (Contains (keys_in_order bs) key × Any (λ instance. value_at instance.tuple place ≡ key) (instances_in_order cs))
  left_over_ready key =
      subst (λ (ks : List Value). Contains (keys_in_order cs) key ↔ (Contains ks key × Any (λ instance. value_at instance.tuple place ≡ key) (instances_in_order cs))) (purged_keys place noted filled before test bs ds h purged)
      (cut_ready place n starts ds cs are cut key)
