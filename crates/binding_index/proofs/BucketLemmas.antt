-- Buckets, and the instances that stand in them key by key.
use Rattle.std.proofs.Common.{◌≡◌, ◌∙◌, sym, ap, refl, subst, ℕ, Bool, true, false, cond, List, [], ◌∷◌, ◌++◌}
use Rattle.std.specs.Prelude.{Some}
use Rattle.std.specs.Option.{unwrap_or}
use Rattle.std.specs.List.{All, AllByRecursion, IsDistinct, filter, flat_map}
use Rattle.std.specs.List.Sorted.{IsPermutation}
use Rattle.std.specs.Map.{keys_of, lookup}
use Rattle.std.proofs.lemmas.List.Elements.{All-nil, All-cons, All-head, All-tail, All-same}
use Rattle.std.proofs.lemmas.List.Sorted.{IsPermutation-map, IsPermutation-sym}
use Rattle.std.proofs.lemmas.Map.Keys.{IsDistinct-head, IsDistinct-tail, IsDistinct-IsPermutation}
use Rattle.event_types.specs.Order.{sort_by, value_cmp}
use Rattle.event_types.specs.OrderLaws.{value_exact, value_total}
use Rattle.event_types.specs.declared.value.Value.{Value}
use Rattle.event_types.proofs.SortLemmas.{sort_permuted, sort_permutes}
use Rattle.semantics.specs.Values.{value_at}
use Rattle.scalar_expr.proofs.Bags.{filter-flat_map, flat_map_each, flat_map_permuted, permuted_from}
use Rattle.instances.specs.declared.instance.Instance.{Instance}
use Rattle.binding_index.specs.Buckets.{AreKeyed, AreSame, Bucket, IsKeyed, instances_in_order, instances_at, keys_in_order}
use Rattle.binding_index.specs.Among.{is_key}
use Rattle.binding_index.specs.Entries.{has_any, is_filled, items_at}
use Rattle.binding_index.proofs.EqualityLemmas.{key_decides, key_flips, key_itself}
use Rattle.binding_index.proofs.OrderLemmas.{flat_sort_filter}

-- no item, where there is none
pub empty : {X : Type 0} (xs : List X) → has_any xs ≡ false → xs ≡ []
empty [] e = refl
empty (x ∷ xs) e = cc

module _ {Y : Type 0} where
  -- a key that the first entry has not is looked up behind it
  pub past : (b : Value × List Y) (bs : List (Value × List Y)) (key : Value) → is_key key b.0 ≡ false → items_at (b ∷ bs) key ≡ items_at bs key
  past b bs key e = ap (λ t. unwrap_or (cond t (Some b.1) (lookup (is_key key) bs)) []) e

  -- a key that the first entry has is given its items
  pub here : (b : Value × List Y) (bs : List (Value × List Y)) (key : Value) → is_key key b.0 ≡ true → items_at (b ∷ bs) key ≡ b.1
  here b bs key e = ap (λ t. unwrap_or (cond t (Some b.1) (lookup (is_key key) bs)) []) e

  -- a key that no entry has
  pub apart : (key : Value) (bs : List (Value × List Y)) → AllByRecursion (λ y. is_key key y ≡ false) (keys_of bs) → All (λ b. is_key b.0 key ≡ false) bs
  apart key [] h = All-nil _
  apart key (b ∷ bs) h = All-cons (λ c. is_key c.0 key ≡ false) b bs (key_flips b.0 key ∙ h.0) (apart key bs h.1)

  none_found : (key : Value) (bs : List (Value × List Y)) → AllByRecursion (λ y. is_key key y ≡ false) (keys_of bs) → items_at bs key ≡ []
  none_found key [] h = refl
  none_found key (b ∷ bs) h = past b bs key h.0 ∙ none_found key bs h.1

  -- without the entries that have no item, the same items stand under each key
  pub kept : (bs : List (Value × List Y)) → IsDistinct is_key (keys_of bs) → (key : Value) → items_at (filter is_filled bs) key ≡ items_at bs key
  kept [] d key = refl
  kept (b ∷ bs) d key = go (kept bs (IsDistinct-tail is_key b.0 (keys_of bs) d) key) (is_filled b) refl (is_key key b.0) refl
    where
      away : is_key key b.0 ≡ true → items_at bs key ≡ []
      away e = subst (λ (k : Value). items_at bs k ≡ []) (sym ((key_decides key b.0).0 e)) (none_found b.0 bs (IsDistinct-head is_key b.0 (keys_of bs) d))

      go : items_at (filter is_filled bs) key ≡ items_at bs key → (t : Bool) → is_filled b ≡ t → (u : Bool) → is_key key b.0 ≡ u → items_at (cond t (b ∷ filter is_filled bs) (filter is_filled bs)) key ≡ items_at (b ∷ bs) key
      go rest true e true f = here b (filter is_filled bs) key f ∙ sym (here b bs key f)
      go rest true e false f = past b (filter is_filled bs) key f ∙ rest ∙ sym (past b bs key f)
      go rest false e true f = rest ∙ away f ∙ sym (here b bs key f ∙ empty b.1 e)
      go rest false e false f = rest ∙ sym (past b bs key f)

-- where no key comes twice, each bucket is found by its key
pub found_own : (bs : List Bucket) → IsDistinct is_key (keys_of bs) → All (λ b. instances_at bs b.0 ≡ b.1) bs
found_own [] d = All-nil _
found_own (b ∷ bs) d =
    let away = apart b.0 bs (IsDistinct-head is_key b.0 (keys_of bs) d) in
    let own = found_own bs (IsDistinct-tail is_key b.0 (keys_of bs) d) in
    All-cons (λ c. instances_at (b ∷ bs) c.0 ≡ c.1) b bs (here b bs b.0 (key_itself b.0)) (λ k d lt. past b bs _ (away k d lt) ∙ own k d lt)

-- the instances of all buckets, one bucket after another
pub flat_is : (bs : List Bucket) → IsDistinct is_key (keys_of bs) → flat_map (λ b. b.1) bs ≡ flat_map (instances_at bs) (keys_of bs)
flat_is bs d = go bs (found_own bs d)
  where
    go : (cs : List Bucket) → All (λ b. instances_at bs b.0 ≡ b.1) cs → flat_map (λ b. b.1) cs ≡ flat_map (instances_at bs) (keys_of cs)
    go [] own = refl
    go (c ∷ cs) own =
        let one = sym (All-head (λ (b : Bucket). instances_at bs b.0 ≡ b.1) c cs own) in
        λ i. one i ++ go cs (All-tail (λ (b : Bucket). instances_at bs b.0 ≡ b.1) c cs own) i

-- they are those that stand key by key
pub in_order_permuted : (bs : List Bucket) → IsDistinct is_key (keys_of bs) → IsPermutation (flat_map (λ b. b.1) bs) (instances_in_order bs)
in_order_permuted bs d =
    permuted_from (flat_is bs d) (flat_map_permuted (instances_at bs) (keys_of bs) (keys_in_order bs) (IsPermutation-sym _ _ (sort_permutes value_cmp value_total (keys_of bs))))

-- the keys in their order are distinct too
pub distinct_in_order : (bs : List Bucket) → IsDistinct is_key (keys_of bs) → IsDistinct is_key (keys_in_order bs)
distinct_in_order bs d = IsDistinct-IsPermutation is_key key_flips (keys_of bs) (keys_in_order bs) (IsPermutation-sym _ _ (sort_permutes value_cmp value_total (keys_of bs))) d

-- the same buckets in another order have the same keys in their order
pub same_keys : (old new : List Bucket) → AreSame old new → keys_in_order new ≡ keys_in_order old
same_keys old new h = sym (sort_permuted value_cmp value_total value_exact (keys_of old) (keys_of new) (IsPermutation-map (λ b. b.0) old new h.permuted))

-- the same buckets in another order have the same instances key by key
pub same_in_order : (old new : List Bucket) → AreSame old new → instances_in_order new ≡ instances_in_order old
same_in_order old new h = flat_map_each (instances_at new) (instances_at old) h.same (keys_in_order new) ∙ ap (flat_map (instances_at old)) (same_keys old new h)

-- where no key comes twice, none does in another order of the same buckets
pub same_distinct : (old new : List Bucket) → AreSame old new → IsDistinct is_key (keys_of old) → IsDistinct is_key (keys_of new)
same_distinct old new h d = IsDistinct-IsPermutation is_key key_flips (keys_of old) (keys_of new) (IsPermutation-map (λ b. b.0) old new h.permuted) d

-- buckets of the same keys, each with what passes a test
pub filter_in_order : (test : Instance → Bool) (old new : List Bucket) → keys_of new ≡ keys_of old → ((key : Value) → instances_at new key ≡ filter test (instances_at old key)) → instances_in_order new ≡ filter test (instances_in_order old)
filter_in_order test old new keys each =
    flat_map_each (instances_at new) (λ key. filter test (instances_at old key)) each (keys_in_order new)
    ∙ ap (λ ks. flat_map (λ key. filter test (instances_at old key)) (sort_by value_cmp ks)) keys ∙ sym (filter-flat_map test (instances_at old) (keys_in_order old))

-- buckets without those that are empty
module _ where
  -- their keys are those of instances
  keys_filter : (test : Value → Bool) (bs : List Bucket) → All (λ b. test b.0 ≡ is_filled b) bs → keys_of (filter is_filled bs) ≡ filter test (keys_of bs)
  keys_filter test [] all = refl
  keys_filter test (b ∷ bs) all =
      go (keys_filter test bs (All-tail (λ (b : Bucket). test b.0 ≡ is_filled b) b bs all)) (test b.0) (is_filled b) (All-head (λ (b : Bucket). test b.0 ≡ is_filled b) b bs all)
    where
      go : keys_of (filter is_filled bs) ≡ filter test (keys_of bs) → (t u : Bool) → t ≡ u → keys_of (cond u (b ∷ filter is_filled bs) (filter is_filled bs)) ≡ cond t (b.0 ∷ filter test (keys_of bs)) (filter test (keys_of bs))
      go rest true true e = ap (λ ks. b.0 ∷ ks) rest
      go rest false false e = rest
      go rest true false e = cc
      go rest false true e = cc

  -- and key by key the same instances stand in them
  pub kept_in_order : (bs : List Bucket) → IsDistinct is_key (keys_of bs) → instances_in_order (filter is_filled bs) ≡ instances_in_order bs
  kept_in_order bs d =
      let test : Value → Bool = λ key. has_any (instances_at bs key) in
      flat_map_each (instances_at (filter is_filled bs)) (instances_at bs) (kept bs d) (keys_in_order (filter is_filled bs))
      ∙ ap (λ ks. flat_map (instances_at bs) (sort_by value_cmp ks)) (keys_filter test bs (λ k x lt. ap has_any (found_own bs d k x lt)))
      ∙ flat_sort_filter value_cmp (instances_at bs) value_total value_exact test (λ key e. empty (instances_at bs key) e) (keys_of bs)

-- an instance stands under its key
pub keyed_at : (place : ℕ) (bs : List Bucket) → AreKeyed place bs → (key : Value) → All (λ instance. value_at instance.tuple place ≡ key) (instances_at bs key)
keyed_at place [] all key = All-nil _
keyed_at place (b ∷ bs) all key = go (keyed_at place bs (All-tail (IsKeyed place) b bs all) key) (is_key key b.0) refl
  where
    go : All (λ instance. value_at instance.tuple place ≡ key) (instances_at bs key) → (t : Bool) → is_key key b.0 ≡ t → All (λ instance. value_at instance.tuple place ≡ key) (instances_at (b ∷ bs) key)
    go rest true e =
        All-same (λ (instance : Instance). value_at instance.tuple place ≡ key) _ _ (here b bs key e)
        (λ k d lt. All-head (IsKeyed place) b bs all k d lt ∙ sym ((key_decides key b.0).0 e))
    go rest false e = All-same (λ (instance : Instance). value_at instance.tuple place ≡ key) _ _ (past b bs key e) rest
