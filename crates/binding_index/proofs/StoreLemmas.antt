-- The buckets of a store, from one call to the next.
use Rattle.std.proofs.Common.{◌≡◌, ◌∙◌, sym, ap, refl, subst, ℕ, Bool, zero, suc, ◌+◌, ◌<◌, ◌≤◌, ◌⊎◌, inl, inr, true, false, length, length-append, get_or, is_some, set, List, [], ◌∷◌, ◌++◌, Contains, arith}
use Rattle.std.specs.Prelude.{IfNone, IfOk, IfSome, OnErr, OnOk, Option, Result, Ok, Err, Some, None, min, slice_get}
use Rattle.std.specs.List.Sorted.{IsPermutation}
use Rattle.std.specs.List.{All, IsDistinct, filter, flat_map, list_any}
use Rattle.std.specs.Map.{keys_of, lookup, values_of}
use Rattle.std.proofs.lemmas.Bool.{cases_eq}
use Rattle.std.proofs.lemmas.List.{map-append}
use Rattle.std.proofs.lemmas.List.Elements.{All-nil, All-cons, All-contains_itself, All-filter, All-push, All-same, All-weaker, Contains-append_cases, Contains-append_left, Contains-append_right, Contains-push}
use Rattle.std.proofs.lemmas.List.Folds.{list_any-from_Any}
use Rattle.std.proofs.lemmas.List.Sorted.{All-permutation, Contains-permutation, IsPermutation-sym, list_any-IsPermutation}
use Rattle.std.proofs.lemmas.Map.Made.{is_some-lookup}
use Rattle.std.proofs.lemmas.Option.{get_or_from_slice_get, slice_get_within}
use Rattle.event_types.specs.Order.{value_cmp}
use Rattle.event_types.specs.OrderLaws.{value_total}
use Rattle.event_types.specs.Tuple.{TupleView}
use Rattle.event_types.specs.declared.value.Value.{Value}
use Rattle.event_types.proofs.SortLemmas.{sort_permutes}
use Rattle.event_types.specs.declared.value.Value.TheVariants.{Over}
use Rattle.indexmap.specs.IndexMap.{set_value_at}
use Rattle.semantics.specs.Values.{value_at}
use Rattle.instances.specs.declared.instance.Instance.{Instance}
use Rattle.binding_index.specs.Among.{is_among}
use Rattle.binding_index.specs.Buckets.{AreBuckets, AreKeyed, AreSame, AreStarts, Bucket, IsKeyed, IsSplit, IsSplitAside, StartsFrom, instances_in_order, keys_in_order}
use Rattle.binding_index.specs.Among.{is_key}
use Rattle.binding_index.specs.Entries.{is_filled}
use Rattle.inst_chain.specs.Heads.{head}
use Rattle.scalar_expr.proofs.Bags.{permuted_from}
use Rattle.binding_index.proofs.BucketLemmas.{in_order_permuted, same_distinct, same_in_order}
use Rattle.binding_index.proofs.EqualityLemmas.{key_itself}
use Rattle.binding_index.proofs.NotedLemmas.{any_noted}
use Rattle.binding_index.proofs.StartLemmas.{other_time, own_time, starts_earlier, starts_written}
use Rattle.binding_index.proofs.WriteLemmas.{all_at, all_written, keys_written, none_more, one_more}

-- no bucket
none : (place : ℕ) (starts : List ℕ) → AreBuckets place [] 0 starts []
unfolding IsDistinct
none place starts = record {
  distinct = tt;
  keyed = λ k d lt. absurd (omega arith);
  start = λ k d lt. absurd (omega arith);
  room = omega arith;
  within = omega arith;
  split = any_noted [] 0 [] (λ k d lt. absurd (omega arith));
}

-- an empty list of buckets is that of a store
pub no_buckets : (place : ℕ) (starts noted : List ℕ) (bs : List Bucket) → noted ≡ [] → bs ≡ [] → AreBuckets place noted 0 starts bs
no_buckets place starts noted bs nothing e = subst (λ (ns : List ℕ). AreBuckets place ns 0 starts bs) (sym nothing) (subst (AreBuckets place [] 0 starts) (sym e) (none place starts))

-- one bucket was written, and then stands where it should
pub arranged : (place : ℕ) (noted : List ℕ) (filled : ℕ) (starts : List ℕ) (bs : List Bucket) (i : ℕ) (key : Value) (v w : List Instance) (cs : List Bucket) → IsDistinct is_key (keys_of bs) → AreKeyed place bs → slice_get bs i ≡ Some (key, v)
    → IsKeyed place (key, w) → AreSame (set_value_at bs i w) cs → AreStarts starts cs → length cs ≤ length starts → filled ≤ length cs → IsSplitAside noted filled cs → AreBuckets place noted filled starts cs
arranged place noted filled starts bs i key v w cs d keyed at of_key same start room within split = record {
  distinct = same_distinct (set_value_at bs i w) cs same (subst (λ (ks : List Value). IsDistinct is_key ks) (sym (keys_written bs i w)) d);
  keyed = All-permutation (IsKeyed place) (set_value_at bs i w) cs same.permuted (all_written (IsKeyed place) bs i key v w at of_key keyed);
  start = start;
  room = room;
  within = within;
  split = split;
}

-- once the noted buckets are arranged, they are those of a store
pub settled : (place : ℕ) (noted : List ℕ) (before filled : ℕ) (times starts : List ℕ) (bs cs : List Bucket) → AreBuckets place noted before times bs → AreSame bs cs → AreStarts starts cs → length cs ≤ length starts → filled ≤ length cs → IsSplit filled cs
    → AreBuckets place [] filled starts cs
settled place noted before filled times starts bs cs h same start room within split = record {
  distinct = same_distinct bs cs same h.distinct;
  keyed = All-permutation (IsKeyed place) bs cs same.permuted h.keyed;
  start = start;
  room = room;
  within = within;
  split = any_noted [] filled cs split;
}

-- the value that was read at a place of a tuple
pub value_is : (row : TupleView) (vals : List Value) (place : ℕ) (v : Value) → vals ≡ row.vals → slice_get vals place ≡ Some v → value_at row place ≡ v
value_is row vals place v e at = ap (λ (vs : List Value). get_or vs place Over) (sym e) ∙ get_or_from_slice_get vals place v Over at

-- the value at the place of an entry
pub value_there : (bs : List Bucket) (i : ℕ) (key : Value) (v w : List Instance) → slice_get bs i ≡ Some (key, v) → slice_get (values_of bs) i ≡ Some w → w ≡ v
value_there [] i key v w at there = cc
value_there (b ∷ bs) zero key v w at there = let one : b ≡ (key, v) = cc in let two : b.1 ≡ w = cc in sym two ∙ ap (λ (c : Bucket). c.1) one
value_there (b ∷ bs) (suc i) key v w at there = value_there bs i key v w at there

-- the keys in their order are those of the buckets
pub to_order : (bs : List Bucket) (key : Value) → Contains (keys_of bs) key → Contains (keys_in_order bs) key
to_order bs key h = Contains-permutation (keys_of bs) (keys_in_order bs) key (IsPermutation-sym _ _ (sort_permutes value_cmp value_total (keys_of bs))) h

-- a key that stands in their order is that of a bucket
pub from_order : (bs : List Bucket) (key : Value) → Contains (keys_in_order bs) key → Contains (keys_of bs) key
from_order bs key h = Contains-permutation (keys_in_order bs) (keys_of bs) key (sort_permutes value_cmp value_total (keys_of bs)) h

-- the key of the bucket at a place is one of the keys
key_there : (bs : List Bucket) (i : ℕ) (key : Value) (v : List Instance) → slice_get bs i ≡ Some (key, v) → Contains (keys_of bs) key
key_there [] i key v at = cc
key_there (b ∷ bs) zero key v at = let one : b ≡ (key, v) = cc in (0, omega arith, ap (λ (c : Bucket). c.0) one)
key_there (b ∷ bs) (suc i) key v at = Contains-append_right (b.0 ∷ []) (keys_of bs) key (key_there bs i key v at)

-- a key whose bucket stands at a place is ready
pub ready_there : (bs : List Bucket) (i : ℕ) (key : Value) (v : List Instance) → slice_get bs i ≡ Some (key, v) → Contains (keys_in_order bs) key
ready_there bs i key v at = to_order bs key (key_there bs i key v at)

-- a key that is ready is found
pub not_missing : (bs : List Bucket) (key : Value) → Contains (keys_in_order bs) key → lookup (is_key key) bs ≡ None → ⊥
not_missing bs key ready missing =
    let h = from_order bs key ready in
    let found : list_any (is_key key) (keys_of bs) ≡ true = list_any-from_Any (is_key key) (keys_of bs) (h.0, key, h.1, h.2, key_itself key) in
    let none : false ≡ list_any (is_key key) (keys_of bs) = ap is_some (sym missing) ∙ is_some-lookup (is_key key) bs in
    contradiction (none ∙ found)
  where
    contradiction : false ≡ true → ⊥
    contradiction e = cc

-- an empty bucket of a new key, behind all others
module _ (place : ℕ) (noted : List ℕ) (filled : ℕ) (starts : List ℕ) (bs : List Bucket) (key : Value) (h : AreBuckets place noted filled starts bs) where
  abbrev new : Bucket
  new = (key, [])

  -- with it, each instance of each bucket has the bucket's key
  added_keyed : AreKeyed place (bs ++ new ∷ [])
  added_keyed = All-push (IsKeyed place) bs new h.keyed (All-nil _)

  -- and the buckets are split as they were
  added_split : IsSplitAside noted filled (bs ++ new ∷ [])
  added_split = record {
    before = λ n d low lt.
        let few = h.within in
        subst (λ (b : Bucket). (is_filled b ≡ true) ⊎ Contains noted n) (sym (front bs n d (omega (arith, low, few)))) (h.split.before n d low (omega (arith, low, few)));
    behind = λ n d high lt. behind n d high (cases_eq n (length bs)) (let long = length-append bs (new ∷ []) in omega (arith, long, lt));
  }
    where
      front : (cs : List Bucket) (n : ℕ) (e : Bucket) → n < length cs → get_or (cs ++ new ∷ []) n e ≡ get_or cs n e
      front [] n e lt = absurd (omega arith)
      front (c ∷ cs) zero e lt = refl
      front (c ∷ cs) (suc n) e lt = front cs n e (omega arith)

      back : (cs : List Bucket) (e : Bucket) → get_or (cs ++ new ∷ []) (length cs) e ≡ new
      back [] e = refl
      back (c ∷ cs) e = back cs e

      behind : (n : ℕ) (d : Bucket) → filled ≤ n → (n ≡ length bs) ⊎ (n ≡ length bs → ⊥) → n < length bs + 1 → is_filled (get_or (bs ++ new ∷ []) n d) ≡ false
      behind n d high (inl last) lt = ap (λ m. is_filled (get_or (bs ++ new ∷ []) m d)) last ∙ ap is_filled (back bs d)
      behind n d high (inr other) lt = ap is_filled (front bs n d (omega (arith, lt, other))) ∙ h.split.behind n d high (omega (arith, lt, other))

  -- the keys that were ready are so still
  pub more_keys : All (Contains (keys_in_order (bs ++ new ∷ []))) (keys_in_order bs)
  more_keys =
      All-weaker (Contains (keys_in_order bs)) (Contains (keys_in_order (bs ++ new ∷ [])))
      (λ k c. to_order (bs ++ new ∷ []) k (subst (λ (ks : List Value). Contains ks k) (sym (map-append _ bs (new ∷ []))) (Contains-append_left (keys_of bs) (key ∷ []) k (from_order bs k c)))) (keys_in_order bs) (All-contains_itself (keys_in_order bs))

  -- no other key becomes ready
  pub no_other_key : (k : Value) → Contains (keys_in_order (bs ++ new ∷ [])) k → Contains (keys_in_order bs) k ⊎ (key ≡ k)
  no_other_key k c =
      go (Contains-append_cases (keys_of bs) (key ∷ []) k (subst (λ (ks : List Value). Contains ks k) (map-append _ bs (new ∷ [])) (from_order (bs ++ new ∷ []) k c)))
    where
      go : Contains (keys_of bs) k ⊎ Contains (key ∷ []) k → Contains (keys_in_order bs) k ⊎ (key ≡ k)
      go (inl old) = inl (to_order bs k old)
      go (inr (zero, lt, is)) = inr is
      go (inr (suc n, lt, is)) = absurd (omega arith)

  -- the new key is ready
  pub new_key : Contains (keys_in_order (bs ++ new ∷ [])) key
  new_key = to_order (bs ++ new ∷ []) key (subst (λ (ks : List Value). Contains ks key) (sym (map-append _ bs (new ∷ []))) (Contains-push (keys_of bs) key))

-- where a place was found for a key, the key is ready
pub found_if : (bs : List Bucket) (key : Value) (v : List Instance) (r : Option ℕ) → is_some r ≡ true → IfSome r (λ place. slice_get bs place ≡ Some (key, v)) → Contains (keys_in_order bs) key
found_if bs key v None some h = cc
found_if bs key v (Some place) some h = ready_there bs place key v h

-- copies of all instances are those that stand key by key, up to order
pub all_permuted : {E : Type 0} (bs : List Bucket) (r : Result (List Instance) E) → IsDistinct is_key (keys_of bs) → IfOk r (λ copies. copies ≡ flat_map (λ b. b.1) bs) → IfOk r (λ copies. IsPermutation copies (instances_in_order bs))
all_permuted bs (Ok copies) d h = permuted_from h (in_order_permuted bs d)
all_permuted bs (Err e) d h = h

-- the first of a chain of one bead is that bead
pub the_bead : (new link look : List Instance) (bead x : Instance) → new ≡ [] → link ≡ new ++ bead ∷ [] → look ≡ link → Some x ≡ head look → x ≡ bead
the_bead new link look bead x empty linked seen first = let one : Some x ≡ Some bead = first ∙ ap head (seen ∙ linked ∙ ap (λ is. is ++ bead ∷ []) empty) in cc

-- where an instance was put before those of its key, the buckets are those of a store
pub linked : (place : ℕ) (noted marked : List ℕ) (before filled : ℕ) (starts times : List ℕ) (bs : List Bucket) (i : ℕ) (key : Value) (had w : List Instance) (bead : Instance) (cs : List Bucket) → AreBuckets place noted before times bs → slice_get bs i ≡ Some (key, had) → w ≡ bead ∷ had
    → value_at bead.tuple place ≡ key → AreSame (set_value_at bs i w) cs → AreStarts starts cs → length cs ≤ length starts → filled ≤ length cs → IsSplitAside marked filled cs → AreBuckets place marked filled starts cs
linked place noted marked before filled starts times bs i key had w bead cs h at is of_key same start room within split =
    arranged place marked filled starts bs i key had w cs h.distinct h.keyed at
    (All-same (λ (n : Instance). value_at n.tuple place ≡ key) w (bead ∷ had) is (All-cons (λ (n : Instance). value_at n.tuple place ≡ key) bead had of_key (all_at (IsKeyed place) bs i (key, had) at h.keyed))) same start room within split

-- its bucket then has the earlier of its own start and the time that the place had
pub linked_starts : (starts : List ℕ) (time from : ℕ) (bs : List Bucket) (i : ℕ) (key : Value) (had w : List Instance) (bead : Instance) → slice_get bs i ≡ Some (key, had) → w ≡ bead ∷ had → length bs ≤ length starts → AreStarts starts bs
    → time ≡ min (get_or starts i 0) from → from ≡ bead.tuple.from → AreStarts (set starts i time) (set_value_at bs i w)
linked_starts starts time from bs i key had w bead at is room start e f =
    let low = slice_get_within bs i (key, had) at in
    let there : StartsFrom (get_or starts i 0) (key, had) = subst (StartsFrom (get_or starts i 0)) (get_or_from_slice_get bs i (key, had) (key, had) at) (start i (key, had) low) in
    starts_written starts (set starts i time) bs i key had w at start
    (subst (λ (t : ℕ). StartsFrom t (key, w)) (sym (own_time starts i time (omega (arith, low, room))))
    (All-same (λ (n : Instance). time ≤ n.tuple.from) w (bead ∷ had) is
    (All-cons (λ (n : Instance). time ≤ n.tuple.from) bead had (omega (arith, e, f)) (starts_earlier time (get_or starts i 0) (key, had) (omega (arith, e)) there))))
    (other_time starts i time)

-- a bucket of which some were taken out starts no earlier
pub taken_starts : (test : Instance → Bool) (starts : List ℕ) (bs : List Bucket) (i : ℕ) (key : Value) (had w : List Instance) → slice_get bs i ≡ Some (key, had) → w ≡ filter test had → AreStarts starts bs → AreStarts starts (set_value_at bs i w)
taken_starts test starts bs i key had w at is start =
    let there : StartsFrom (get_or starts i 0) (key, had) = subst (StartsFrom (get_or starts i 0)) (get_or_from_slice_get bs i (key, had) (key, had) at) (start i (key, had) (slice_get_within bs i (key, had) at)) in
    starts_written starts starts bs i key had w at start
    (All-same (λ (n : Instance). get_or starts i 0 ≤ n.tuple.from) w (filter test had) is (All-filter test (λ (n : Instance). get_or starts i 0 ≤ n.tuple.from) had there)) (λ n other. refl)

-- the instances are then one more, key by key
pub linked_in_order : (bs : List Bucket) (i : ℕ) (key : Value) (had w : List Instance) (bead : Instance) (cs : List Bucket) → IsDistinct is_key (keys_of bs) → slice_get bs i ≡ Some (key, had) → w ≡ bead ∷ had → AreSame (set_value_at bs i w) cs
    → IsPermutation (instances_in_order cs) (bead ∷ instances_in_order bs)
linked_in_order bs i key had w bead cs d at is same =
    permuted_from (same_in_order (set_value_at bs i w) cs same ∙ ap (λ x. instances_in_order (set_value_at bs i x)) is) (one_more bs i key bead had d at)

-- where there was memory, an empty bucket of a new key was added, and else none
module _ {X E : Type 0} (place : ℕ) (noted : List ℕ) (filled : ℕ) (starts : List ℕ) (bs cs : List Bucket) (key : Value) (h : AreBuckets place noted filled starts bs) (r : Result X E) (ok : OnOk r (cs ≡ bs ++ (key, []) ∷ [])) (kept : OnErr r (cs ≡ bs)) (d : IsDistinct is_key (keys_of cs)) where
  grown : (cs ≡ bs ++ (key, []) ∷ []) ⊎ (cs ≡ bs)
  grown = elim r as (λ (s : Result X E). OnOk s (cs ≡ bs ++ (key, []) ∷ []) → OnErr s (cs ≡ bs) → (cs ≡ bs ++ (key, []) ∷ []) ⊎ (cs ≡ bs)) [ Ok x ↦ λ o k. inl o | Err e ↦ λ o k. inr k ] ok kept

  -- the buckets are those of a store either way, with the times that their places then have
  pub grown_buckets : (times : List ℕ) → AreStarts times cs → length cs ≤ length times → AreBuckets place noted filled times cs
  grown_buckets times start room = record {
    distinct = d;
    keyed = keyed grown;
    start = start;
    room = room;
    within = within grown;
    split = split grown;
  }
    where
      keyed : (cs ≡ bs ++ (key, []) ∷ []) ⊎ (cs ≡ bs) → AreKeyed place cs
      keyed (inl e) = subst (AreKeyed place) (sym e) (added_keyed place noted filled starts bs key h)
      keyed (inr e) = subst (AreKeyed place) (sym e) h.keyed

      within : (cs ≡ bs ++ (key, []) ∷ []) ⊎ (cs ≡ bs) → filled ≤ length cs
      within (inl e) = let long = ap length e in let more = length-append bs ((key, []) ∷ []) in let few = h.within in omega (arith, long, more, few)
      within (inr e) = let long = ap length e in let few = h.within in omega (arith, long, few)

      split : (cs ≡ bs ++ (key, []) ∷ []) ⊎ (cs ≡ bs) → IsSplitAside noted filled cs
      split (inl e) = subst (IsSplitAside noted filled) (sym e) (added_split place noted filled starts bs key h)
      split (inr e) = subst (IsSplitAside noted filled) (sym e) h.split

  -- the keys that were ready are so still
  pub grown_keys : All (Contains (keys_in_order cs)) (keys_in_order bs)
  grown_keys = go grown
    where
      go : (cs ≡ bs ++ (key, []) ∷ []) ⊎ (cs ≡ bs) → All (Contains (keys_in_order cs)) (keys_in_order bs)
      go (inl e) = subst (λ (xs : List Bucket). All (Contains (keys_in_order xs)) (keys_in_order bs)) (sym e) (more_keys place noted filled starts bs key h)
      go (inr e) = subst (λ (xs : List Bucket). All (Contains (keys_in_order xs)) (keys_in_order bs)) (sym e) (All-contains_itself (keys_in_order bs))

  -- no other key became ready
  pub grown_only : (k : Value) → Contains (keys_in_order cs) k → Contains (keys_in_order bs) k ⊎ (key ≡ k)
  grown_only k became = go grown
    where
      go : (cs ≡ bs ++ (key, []) ∷ []) ⊎ (cs ≡ bs) → Contains (keys_in_order bs) k ⊎ (key ≡ k)
      go (inl e) = no_other_key place noted filled starts bs key h k (subst (λ (xs : List Bucket). Contains (keys_in_order xs) k) e became)
      go (inr e) = inl (subst (λ (xs : List Bucket). Contains (keys_in_order xs) k) e became)

  -- the instances are the same
  pub grown_in_order : instances_in_order cs ≡ instances_in_order bs
  grown_in_order = go grown
    where
      go : (cs ≡ bs ++ (key, []) ∷ []) ⊎ (cs ≡ bs) → instances_in_order cs ≡ instances_in_order bs
      go (inl e) = ap instances_in_order e ∙ none_more bs key h.distinct (subst (λ (xs : List Bucket). IsDistinct is_key (keys_of xs)) e d)
      go (inr e) = ap instances_in_order e

  -- where there was memory, the new key is ready
  pub grown_key : OnOk r (Contains (keys_in_order cs) key)
  grown_key =
      elim r as (λ (s : Result X E). OnOk s (cs ≡ bs ++ (key, []) ∷ []) → OnOk s (Contains (keys_in_order cs) key)) [
        | Ok x ↦ λ o. subst (λ (xs : List Bucket). Contains (keys_in_order xs) key) (sym o) (new_key place noted filled starts bs key h)
        | Err e ↦ λ o. o
      ] ok

-- whether a key is ready, as its place was looked for
pub ready_if : (bs : List Bucket) (key : Value) (v : List Instance) (r : Option ℕ) → IfSome r (λ place. slice_get bs place ≡ Some (key, v)) → IfNone r (lookup (is_key key) bs ≡ None) → is_some r ≡ is_among key (keys_in_order bs)
ready_if bs key v (Some place) found absent =
    let h = ready_there bs place key v found in
    sym (list_any-from_Any (is_key key) (keys_in_order bs) (h.0, key, h.1, h.2, key_itself key))
ready_if bs key v None found absent =
    ap is_some (sym absent) ∙ is_some-lookup (is_key key) bs ∙ sym (list_any-IsPermutation (is_key key) (keys_in_order bs) (keys_of bs) (sort_permutes value_cmp value_total (keys_of bs)))
