-- Buckets from which expired instances are taken out, the last bucket first.
use Rattle.std.proofs.Common.{◌≡◌, ◌∙◌, sym, ap, refl, subst, ℕ, zero, suc, ◌<◌, ◌≤◌, ◌⊎◌, inl, inr, Bool, true, false, cond, get_or, length, max, nat_le, set, List, [], ◌∷◌, arith}
use Rattle.std.specs.Prelude.{Some, slice_get}
use Rattle.std.specs.List.{All, IsDistinct, filter}
use Rattle.std.specs.List.Sorted.{IsPermutation}
use Rattle.std.specs.Map.{keys_of, values_of}
use Rattle.std.proofs.lemmas.Bool.{cases_lt, le-leb, lt-leb}
use Rattle.std.proofs.lemmas.List.Elements.{All-nil, All-head, All-tail, All-same, All-weaker, filter_passes}
use Rattle.std.proofs.lemmas.List.Sorted.{IsPermutation-map, IsPermutation-refl, IsPermutation-trans}
use Rattle.std.proofs.lemmas.Map.Keys.{IsDistinct-IsPermutation}
use Rattle.std.proofs.lemmas.Option.{get_or_from_slice_get, slice_get_within}
use Rattle.event_types.specs.declared.value.Value.{Value}
use Rattle.indexmap.specs.IndexMap.{set_value_at}
use Rattle.semantics.specs.Scalars.{Pr}
use Rattle.semantics.proofs.ReportLemmas.{filter_all}
use Rattle.instances.specs.Alive.{is_alive}
use Rattle.instances.specs.Bounds.{alive_instances, started}
use Rattle.instances.specs.declared.instance.Instance.{Instance}
use Rattle.instances.proofs.BoundLemmas.{started_is}
use Rattle.binding_index.specs.Among.{is_key}
use Rattle.binding_index.specs.Buckets.{AreSame, AreStarts, Bucket, IsPurged, KeepsAlive, StartFrom, StartsFrom, instances_at}
use Rattle.binding_index.proofs.BucketLemmas.{found_own, here, past}
use Rattle.binding_index.proofs.EqualityLemmas.{key_decides, key_flips}
use Rattle.binding_index.proofs.StartLemmas.{other_time, own_time, starts_written}
use Rattle.binding_index.proofs.WriteLemmas.{keys_written, written_at}

-- what holds of the instances of each bucket holds of those of a key
at_key : (P : Instance → Type 0) (bs : List Bucket) → All (λ b. All P b.1) bs → (key : Value) → All P (instances_at bs key)
at_key P [] all key = All-nil P
at_key P (b ∷ bs) all key = go (at_key P bs (All-tail (λ (c : Bucket). All P c.1) b bs all) key) (is_key key b.0) refl
  where
    go : All P (instances_at bs key) → (t : Bool) → is_key key b.0 ≡ t → All P (instances_at (b ∷ bs) key)
    go rest true e = All-same P _ _ (here b bs key e) (All-head (λ (c : Bucket). All P c.1) b bs all)
    go rest false e = All-same P _ _ (past b bs key e) rest

-- the bucket whose instances stand at a place
pub entry_there : (bs : List Bucket) (i : ℕ) (v : List Instance) → slice_get (values_of bs) i ≡ Some v → (key : Value) × (slice_get bs i ≡ Some (key, v))
entry_there [] i v at = absurd (cc)
entry_there (b ∷ bs) zero v at = let one : b.1 ≡ v = cc in (b.0, ap (λ (is : List Instance). Some (b.0, is)) one)
entry_there (b ∷ bs) (suc i) v at = entry_there bs i v at

module _ (test : Instance → Bool) where
  -- the same buckets
  pub kept_itself : (bs : List Bucket) → KeepsAlive test bs bs
  kept_itself bs = record {
    same_keys = IsPermutation-refl _;
    alike = λ key. refl;
  }

  -- one change after another
  pub kept_on : (old bs new : List Bucket) → KeepsAlive test old bs → KeepsAlive test bs new → KeepsAlive test old new
  kept_on old bs new h next = record {
    same_keys = IsPermutation-trans _ _ _ h.same_keys next.same_keys;
    alike = λ key. next.alike key ∙ h.alike key;
  }

  -- a bucket was given what passes of its own
  one_purged : (place : ℕ) (bs : List Bucket) (key : Value) (v w : List Instance) → IsDistinct is_key (keys_of bs) → slice_get bs place ≡ Some (key, v) → w ≡ filter test v → KeepsAlive test bs (set_value_at bs place w)
  one_purged place bs own v w distinct at is = record {
    same_keys = subst (λ ks. IsPermutation (keys_of bs) ks) (sym (keys_written bs place w)) (IsPermutation-refl _);
    alike = λ key. like key (is_key own key) refl;
  }
    where
      had : instances_at bs own ≡ v
      had = subst (λ (b : Bucket). instances_at bs b.0 ≡ b.1) (get_or_from_slice_get bs place (own, v) (own, v) at) (found_own bs distinct place (own, v) (slice_get_within bs place (own, v) at))

      twice : filter test w ≡ filter test v
      twice = ap (filter test) is ∙ filter_all test (filter test v) (filter_passes test v)

      like : (key : Value) (t : Bool) → is_key own key ≡ t → filter test (instances_at (set_value_at bs place w) key) ≡ filter test (instances_at bs key)
      like key true e =
          ap (filter test) (written_at bs place own v w distinct at key ∙ ap (λ u. cond u w (instances_at bs key)) e) ∙ twice
          ∙ ap (filter test) (sym had ∙ ap (instances_at bs) ((key_decides own key).0 e))
      like key false e = ap (filter test) (written_at bs place own v w distinct at key ∙ ap (λ u. cond u w (instances_at bs key)) e)

  -- and the buckets then changed their order
  pub purged_there : (place : ℕ) (bs cs : List Bucket) (v w : List Instance) → IsDistinct is_key (keys_of bs) → slice_get (values_of bs) place ≡ Some v → w ≡ filter test v → AreSame (set_value_at bs place w) cs → KeepsAlive test bs cs
  purged_there place bs cs v w distinct at is same =
      let own = entry_there bs place v at in
      kept_on bs (set_value_at bs place w) cs (one_purged place bs own.0 v w distinct own.1 is)
      (record {
        same_keys = IsPermutation-map (λ b. b.0) (set_value_at bs place w) cs same.permuted;
        alike = λ key. ap (filter test) (same.same key);
      })

  -- where all instances that are left pass, each key has those of its own that do
  pub all_purged : (old new : List Bucket) → KeepsAlive test old new → All (λ b. All (λ instance. test instance ≡ true) b.1) new → IsPurged test old new
  all_purged old new h pass = record {
    same_keys = h.same_keys;
    each = λ key. sym (filter_all test (instances_at new key) (at_key (λ instance. test instance ≡ true) new pass key)) ∙ h.alike key;
  }

-- the keys of which none was lost are still apart
pub kept_distinct : (test : Instance → Bool) (old new : List Bucket) → KeepsAlive test old new → IsDistinct is_key (keys_of old) → IsDistinct is_key (keys_of new)
kept_distinct test old new h distinct = IsDistinct-IsPermutation is_key key_flips (keys_of old) (keys_of new) h.same_keys distinct

-- the instances that start no earlier than the earliest start that is alive
pub all_later : (time earliest oldest : ℕ) (choose : List Pr) (is : List Instance) → ((from : ℕ) → is_alive time choose (started from) ≡ nat_le earliest from) → earliest ≤ oldest → All (λ (instance : Instance). oldest ≤ instance.tuple.from) is
    → All (λ (instance : Instance). is_alive time choose instance.tuple ≡ true) is
all_later time earliest oldest choose is told le all =
    All-weaker (λ (instance : Instance). oldest ≤ instance.tuple.from) (λ (instance : Instance). is_alive time choose instance.tuple ≡ true)
    (λ instance later. sym (started_is time choose instance.tuple) ∙ told instance.tuple.from ∙ le-leb earliest instance.tuple.from (omega (arith, le, later))) is all

-- so it is with those of all buckets
pub all_later_there : (time earliest : ℕ) (choose : List Pr) (bs : List Bucket) → ((from : ℕ) → is_alive time choose (started from) ≡ nat_le earliest from) → StartFrom earliest bs → All (λ b. All (λ (instance : Instance). is_alive time choose instance.tuple ≡ true) b.1) bs
all_later_there time earliest choose bs told start n d lt = all_later time earliest earliest choose (get_or bs n d).1 told (omega arith) (start n d lt)

-- the start of an instance that is alive is no earlier than the earliest such
from_alive : (time earliest : ℕ) (choose : List Pr) (n : Instance) → ((from : ℕ) → is_alive time choose (started from) ≡ nat_le earliest from) → is_alive time choose n.tuple ≡ true → earliest ≤ n.tuple.from
from_alive time earliest choose n told alive = go (cases_lt n.tuple.from earliest)
  where
    passes : nat_le earliest n.tuple.from ≡ true
    passes = sym (told n.tuple.from) ∙ started_is time choose n.tuple ∙ alive

    go : (n.tuple.from < earliest) ⊎ (earliest ≤ n.tuple.from) → earliest ≤ n.tuple.from
    go (inl early) = let no : true ≡ false = sym passes ∙ lt-leb earliest n.tuple.from early in cc
    go (inr later) = later

-- what is alive of the bucket at a place starts no earlier than the later of two times, the earliest start that is alive and one that is told, which the place gets
pub starts_purged : (time earliest oldest latest place : ℕ) (choose : List Pr) (starts times : List ℕ) (bs : List Bucket) (v w : List Instance) → ((from : ℕ) → is_alive time choose (started from) ≡ nat_le earliest from) → slice_get (values_of bs) place ≡ Some v
    → AreStarts starts bs → length bs ≤ length starts → w ≡ alive_instances time choose v → All (λ (n : Instance). oldest ≤ n.tuple.from) w → latest ≡ max earliest oldest → times ≡ set starts place latest → AreStarts times (set_value_at bs place w)
starts_purged time earliest oldest latest place choose starts times bs v w told at start room is from e f =
    let own = entry_there bs place v at in
    let low = slice_get_within bs place (own.0, v) own.1 in
    subst (λ (ts : List ℕ). AreStarts ts (set_value_at bs place w)) (sym f)
    (starts_written starts (set starts place latest) bs place own.0 v w own.1 start
    (subst (λ (t : ℕ). StartsFrom t (own.0, w)) (sym (own_time starts place latest (omega (arith, low, room))))
    (λ k d lt.
    let alive = All-same (λ (n : Instance). is_alive time choose n.tuple ≡ true) _ _ is (filter_passes (λ (n : Instance). is_alive time choose n.tuple) v) k d lt in
    let late = from_alive time earliest choose (get_or w k d) told alive in
    let later = from k d lt in
    omega (arith, e, late, later)))
    (other_time starts place latest))
