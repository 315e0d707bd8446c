-- Buckets of which one is written, all are, or one is added.
use Rattle.std.proofs.Common.{◌≡◌, ◌∙◌, sym, ap, refl, subst, ℕ, zero, suc, ◌≢◌, Bool, true, false, cond, get_or, length, map, List, [], ◌∷◌, ◌++◌, arith}
use Rattle.std.specs.Prelude.{Some, slice_get}
use Rattle.std.specs.List.{All, IsDistinct, filter, flat_map}
use Rattle.std.specs.List.Sorted.{IsPermutation}
use Rattle.std.specs.Map.{keys_of}
use Rattle.std.proofs.lemmas.List.{append-nil}
use Rattle.std.proofs.lemmas.List.Elements.{All-nil, All-cons, All-head, All-tail, All-get_or, filter-append}
use Rattle.std.proofs.lemmas.List.Sorted.{IsPermutation-append_right, IsPermutation-cons, IsPermutation-middle, IsPermutation-refl, IsPermutation-sym, IsPermutation-trans}
use Rattle.std.proofs.lemmas.Map.Keys.{IsDistinct-head, IsDistinct-tail}
use Rattle.std.proofs.lemmas.Option.{get_or_from_slice_get, slice_get_within}
use Rattle.event_types.specs.declared.value.Value.{Value}
use Rattle.indexmap.specs.IndexMap.{set_value_at}
use Rattle.scalar_expr.proofs.Bags.{permuted_to}
use Rattle.instances.specs.declared.instance.Instance.{Instance}
use Rattle.binding_index.specs.Buckets.{Bucket, IsSplit, IsSplitBut, instances_in_order}
use Rattle.binding_index.specs.Among.{is_key}
use Rattle.binding_index.specs.Entries.{is_filled, items_at}
use Rattle.binding_index.proofs.BucketLemmas.{apart, here, in_order_permuted, kept_in_order, past}
use Rattle.binding_index.proofs.EqualityLemmas.{key_decides, key_flips}

-- the bucket of a key has what was written, and the others what they had
pub written_at : {Y : Type 0} (bs : List (Value × List Y)) (i : ℕ) (key : Value) (v w : List Y) → IsDistinct is_key (keys_of bs) → slice_get bs i ≡ Some (key, v)
    → (k : Value) → items_at (set_value_at bs i w) k ≡ cond (is_key key k) w (items_at bs k)
written_at {Y} [] i key v w d at k = cc
written_at {Y} (b ∷ bs) zero key v w d at k = go (is_key k b.0) refl
  where
    same : is_key key k ≡ is_key k b.0
    same = let one : b ≡ (key, v) = cc in key_flips key k ∙ ap (λ (c : Value × List Y). is_key k c.0) (sym one)

    go : (t : Bool) → is_key k b.0 ≡ t → items_at ((b.0, w) ∷ bs) k ≡ cond (is_key key k) w (items_at (b ∷ bs) k)
    go true e = here (b.0, w) bs k e ∙ sym (ap (λ t. cond t w (items_at (b ∷ bs) k)) (same ∙ e))
    go false e = past (b.0, w) bs k e ∙ sym (ap (λ t. cond t w (items_at (b ∷ bs) k)) (same ∙ e) ∙ past b bs k e)
written_at {Y} (b ∷ bs) (suc i) key v w d at k = go (written_at bs i key v w (IsDistinct-tail is_key b.0 (keys_of bs) d) at k) (is_key k b.0) refl
  where
    away : is_key key b.0 ≡ false
    away =
        ap (λ (c : Value × List Y). is_key c.0 b.0) (sym (get_or_from_slice_get bs i (key, v) b at))
        ∙ apart b.0 bs (IsDistinct-head is_key b.0 (keys_of bs) d) i b (slice_get_within bs i (key, v) at)

    go : items_at (set_value_at bs i w) k ≡ cond (is_key key k) w (items_at bs k) → (t : Bool) → is_key k b.0 ≡ t
        → items_at (b ∷ set_value_at bs i w) k ≡ cond (is_key key k) w (items_at (b ∷ bs) k)
    go rest true e =
        let other : is_key key k ≡ false = ap (is_key key) ((key_decides k b.0).0 e) ∙ away in
        here b (set_value_at bs i w) k e ∙ sym (ap (λ t. cond t w (items_at (b ∷ bs) k)) other ∙ here b bs k e)
    go rest false e = past b (set_value_at bs i w) k e ∙ rest ∙ ap (λ is. cond (is_key key k) w is) (sym (past b bs k e))

-- a bucket that is written keeps its key, and the others theirs
pub keys_written : (bs : List Bucket) (i : ℕ) (w : List Instance) → keys_of (set_value_at bs i w) ≡ keys_of bs
keys_written [] i w = refl
keys_written (b ∷ bs) zero w = refl
keys_written (b ∷ bs) (suc i) w = ap (λ ks. b.0 ∷ ks) (keys_written bs i w)

-- the number of buckets stays
pub length_written : (bs : List Bucket) (i : ℕ) (w : List Instance) → length (set_value_at bs i w) ≡ length bs
length_written [] i w = refl
length_written (b ∷ bs) zero w = refl
length_written (b ∷ bs) (suc i) w = ap suc (length_written bs i w)

-- the buckets at other places stay
pub others_written : (bs : List Bucket) (i : ℕ) (w : List Instance) (n : ℕ) (d : Bucket) → n ≢ i → get_or (set_value_at bs i w) n d ≡ get_or bs n d
others_written [] i w n d apart = refl
others_written (b ∷ bs) zero w zero d apart = absurd (apart refl)
others_written (b ∷ bs) zero w (suc n) d apart = refl
others_written (b ∷ bs) (suc i) w zero d apart = refl
others_written (b ∷ bs) (suc i) w (suc n) d apart = others_written bs i w n d (λ e. apart (ap suc e))

-- the bucket that is written has its key and what was written
pub there_written : (bs : List Bucket) (i : ℕ) (key : Value) (v w : List Instance) → slice_get bs i ≡ Some (key, v) → slice_get (set_value_at bs i w) i ≡ Some (key, w)
there_written [] i key v w at = cc
there_written (b ∷ bs) zero key v w at = let one : b ≡ (key, v) = cc in ap (λ (c : Bucket). Some (c.0, w)) one
there_written (b ∷ bs) (suc i) key v w at = there_written bs i key v w at

-- what holds of all buckets, and of the one that is written
pub all_written : {Y : Type 0} (P : Value × List Y → Type 0) (bs : List (Value × List Y)) (i : ℕ) (key : Value) (v w : List Y) → slice_get bs i ≡ Some (key, v) → P (key, w) → All P bs → All P (set_value_at bs i w)
all_written {Y} P [] i key v w at one all = All-nil P
all_written {Y} P (b ∷ bs) zero key v w at one all =
    let same : b ≡ (key, v) = cc in
    All-cons P (b.0, w) bs (subst (λ (c : Value × List Y). P (c.0, w)) (sym same) one) (All-tail P b bs all)
all_written {Y} P (b ∷ bs) (suc i) key v w at one all = All-cons P b (set_value_at bs i w) (All-head P b bs all) (all_written P bs i key v w at one (All-tail P b bs all))

-- what holds of the bucket at a place
pub all_at : {Y : Type 0} (P : Value × List Y → Type 0) (bs : List (Value × List Y)) (i : ℕ) (b : Value × List Y) → slice_get bs i ≡ Some b → All P bs → P b
all_at P bs i b at all = subst P (get_or_from_slice_get bs i b b at) (All-get_or P bs i b (slice_get_within bs i b at) all)

-- the others stand before and behind a place as they did
pub split_written : (filled : ℕ) (bs : List Bucket) (i : ℕ) (w : List Instance) → IsSplit filled bs → IsSplitBut i filled (set_value_at bs i w)
split_written filled bs i w split n d other lt =
    let long = length_written bs i w in
    ap is_filled (others_written bs i w n d other) ∙ split n d (omega (arith, long))

-- one more instance of a key is one more instance
flat_more : (bs : List Bucket) (i : ℕ) (key : Value) (x : Instance) (v : List Instance) → slice_get bs i ≡ Some (key, v) → IsPermutation (flat_map (λ b. b.1) (set_value_at bs i (x ∷ v))) (x ∷ flat_map (λ b. b.1) bs)
flat_more [] i key x v at = cc
flat_more (b ∷ bs) zero key x v at = let one : b ≡ (key, v) = cc in permuted_to (IsPermutation-refl _) (ap (λ (c : Bucket). x ∷ c.1 ++ flat_map (λ b. b.1) bs) (sym one))
flat_more (b ∷ bs) (suc i) key x v at =
    IsPermutation-trans _ _ _ (IsPermutation-append_right b.1 (flat_map (λ b. b.1) (set_value_at bs i (x ∷ v))) (x ∷ flat_map (λ b. b.1) bs) (flat_more bs i key x v at))
    (IsPermutation-middle b.1 x (flat_map (λ b. b.1) bs))

-- an instance that is put before those of its key is one more, key by key
pub one_more : (bs : List Bucket) (i : ℕ) (key : Value) (x : Instance) (v : List Instance) → IsDistinct is_key (keys_of bs) → slice_get bs i ≡ Some (key, v) → IsPermutation (instances_in_order (set_value_at bs i (x ∷ v))) (x ∷ instances_in_order bs)
one_more bs i key x v d at =
    let written = subst (λ (ks : List Value). IsDistinct is_key ks) (sym (keys_written bs i (x ∷ v))) d in
    IsPermutation-trans _ _ _ (IsPermutation-sym _ _ (in_order_permuted (set_value_at bs i (x ∷ v)) written))
    (IsPermutation-trans _ _ _ (flat_more bs i key x v at) (IsPermutation-cons x _ _ (in_order_permuted bs d)))

-- an empty bucket adds no instance
pub none_more : (bs : List Bucket) (key : Value) → IsDistinct is_key (keys_of bs) → IsDistinct is_key (keys_of (bs ++ (key, []) ∷ [])) → instances_in_order (bs ++ (key, []) ∷ []) ≡ instances_in_order bs
none_more bs key d more =
    let b : Bucket = (key, []) in
    sym (kept_in_order (bs ++ b ∷ []) more) ∙ ap instances_in_order (filter-append is_filled bs (b ∷ []) ∙ append-nil (filter is_filled bs)) ∙ kept_in_order bs d

module _ {Y : Type 0} (test : Value → Y → Bool) where
  -- an entry with those of its items that pass a test of the key and the item
  abbrev pub keeping : Value × List Y → Value × List Y
  keeping b = (b.0, filter (test b.0) b.1)

  -- the keys stay
  pub keys_keeping : (bs : List (Value × List Y)) → keys_of (map keeping bs) ≡ keys_of bs
  keys_keeping [] = refl
  keys_keeping (b ∷ bs) = ap (λ ks. b.0 ∷ ks) (keys_keeping bs)

  -- under each key its items stand that pass
  pub keeping_at : (bs : List (Value × List Y)) (k : Value) → items_at (map keeping bs) k ≡ filter (test k) (items_at bs k)
  keeping_at [] k = refl
  keeping_at (b ∷ bs) k = go (keeping_at bs k) (is_key k b.0) refl
    where
      go : items_at (map keeping bs) k ≡ filter (test k) (items_at bs k) → (t : Bool) → is_key k b.0 ≡ t → items_at (map keeping (b ∷ bs)) k ≡ filter (test k) (items_at (b ∷ bs) k)
      go rest true e = here (keeping b) (map keeping bs) k e ∙ (let same : b.0 ≡ k = sym ((key_decides k b.0).0 e) in let there = sym (here b bs k e) in λ i. filter (test (same i)) (there i))
      go rest false e = past (keeping b) (map keeping bs) k e ∙ rest ∙ ap (filter (test k)) (sym (past b bs k e))
