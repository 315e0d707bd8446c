-- Buckets of instances by key. No public clause cites this module.
use Rattle.std.specs.Prelude.{◌≡◌, ℕ, ◌<◌, ◌≤◌, ◌≢◌, ◌⊎◌, Some, slice_get, Bool, true, false, not, nat_lt, List, [], length, slice_index_or, Contains}
use Rattle.std.specs.List.{All, IsDistinct, filter, flat_map}
use Rattle.std.specs.List.Sorted.{IsPermutation}
use Rattle.std.specs.Map.{keys_of}
use Rattle.event_types.specs.Order.{sort_by, value_cmp}
use Rattle.event_types.specs.declared.value.Value.{Value}
use Rattle.event_types.specs.declared.value.Value.TheVariants.{Over}
use Rattle.semantics.specs.Scalars.{Pr}
use Rattle.semantics.specs.Values.{value_at}
use Rattle.instances.specs.Alive.{is_alive}
use Rattle.instances.specs.Bounds.{started}
use Rattle.instances.specs.declared.instance.Instance.{Instance}
use Rattle.binding_index.specs.Among.{is_key}
use Rattle.binding_index.specs.Entries.{is_filled, items_at}

-- a key, and the instances that have it
abbrev pub Bucket : Type 0
Bucket = Value × List Instance

-- whether a value is OVER
abbrev pub is_over : Value → Bool
is_over Over = true
is_over value = false

-- the instances of a key
abbrev pub instances_at : List Bucket → Value → List Instance
instances_at buckets key = items_at buckets key

-- the keys in their order
abbrev pub keys_in_order : List Bucket → List Value
keys_in_order buckets = sort_by value_cmp (keys_of buckets)

-- the instances key by key
abbrev pub instances_in_order : List Bucket → List Instance
instances_in_order buckets = flat_map (instances_at buckets) (keys_in_order buckets)

-- those before a place have instances, and the others none; the one at another place aside
abbrev pub IsSplitBut : ℕ → ℕ → List Bucket → Type 0
IsSplitBut place filled buckets = (number : ℕ) (d : Bucket) → number ≢ place → number < length buckets → is_filled (slice_index_or buckets number d) ≡ nat_lt number filled

-- those before a place have instances, and the others none
abbrev pub IsSplit : ℕ → List Bucket → Type 0
IsSplit filled buckets = (number : ℕ) (d : Bucket) → number < length buckets → is_filled (slice_index_or buckets number d) ≡ nat_lt number filled

-- those before a place have instances but for some that stand at noted places, and the others none
pub record IsSplitAside (noted : List ℕ) (filled : ℕ) (buckets : List Bucket) : Type 0 where
  pub before : (number : ℕ) (d : Bucket) → number < filled → number < length buckets → (is_filled (slice_index_or buckets number d) ≡ true) ⊎ Contains noted number
  pub behind : (number : ℕ) (d : Bucket) → filled ≤ number → number < length buckets → is_filled (slice_index_or buckets number d) ≡ false

-- the same, the one at another place aside
pub record IsSplitAsideBut (place : ℕ) (noted : List ℕ) (filled : ℕ) (buckets : List Bucket) : Type 0 where
  pub before : (number : ℕ) (d : Bucket) → number ≢ place → number < filled → number < length buckets → (is_filled (slice_index_or buckets number d) ≡ true) ⊎ Contains noted number
  pub behind : (number : ℕ) (d : Bucket) → number ≢ place → filled ≤ number → number < length buckets → is_filled (slice_index_or buckets number d) ≡ false

-- each instance of the bucket has its key
abbrev pub IsKeyed : ℕ → Bucket → Type 0
IsKeyed place bucket = All (λ instance. value_at instance.tuple place ≡ bucket.0) bucket.1

-- each instance of each bucket has the bucket's key
abbrev pub AreKeyed : ℕ → List Bucket → Type 0
AreKeyed place buckets = All (IsKeyed place) buckets

-- no instance of the bucket starts before a time
abbrev pub StartsFrom : ℕ → Bucket → Type 0
StartsFrom oldest bucket = All (λ instance. oldest ≤ instance.tuple.from) bucket.1

-- no instance of any bucket starts before a time
abbrev pub StartFrom : ℕ → List Bucket → Type 0
StartFrom oldest buckets = All (StartsFrom oldest) buckets

-- no instance of a bucket starts before the time that has the bucket's place
abbrev pub AreStarts : List ℕ → List Bucket → Type 0
AreStarts starts buckets = (place : ℕ) (d : Bucket) → place < length buckets → StartsFrom (slice_index_or starts place 0) (slice_index_or buckets place d)

-- how many times have passed for a condition: an instance that started then is alive no more
abbrev pub passed : ℕ → List Pr → List ℕ → ℕ
passed time condition starts = length (filter (λ start. not (is_alive time condition (started start))) starts)

-- what holds of the buckets of a store: no key comes twice, each instance stands under its key and starts no earlier than the time of its bucket's place, each place has one, and the buckets with instances come first, among them some that may have none and stand at noted places
pub record AreBuckets (place : ℕ) (noted : List ℕ) (filled : ℕ) (starts : List ℕ) (buckets : List Bucket) : Type 0 where
  pub distinct : IsDistinct is_key (keys_of buckets)
  pub keyed : AreKeyed place buckets
  pub start : AreStarts starts buckets
  pub room : length buckets ≤ length starts
  pub within : filled ≤ length buckets
  pub split : IsSplitAside noted filled buckets

-- the bucket of a key other than OVER stands at a place
pub record HasBucketAt (buckets : List Bucket) (key : Value) (place : ℕ) : Type 0 where
  pub is_value : is_over key ≡ false
  pub at : slice_get buckets place ≡ Some (key, instances_at buckets key)

-- a key has no candidates
abbrev pub HasNoCandidates : List Bucket → Value → Type 0
HasNoCandidates buckets key = (is_over key ≡ true) ⊎ ((is_over key ≡ false) × (instances_at buckets key ≡ []))

-- the same buckets, in some order
pub record AreSame (old new : List Bucket) : Type 0 where
  pub permuted : IsPermutation old new
  pub same : (key : Value) → instances_at new key ≡ instances_at old key

-- each key has those of its instances that pass the test
pub record IsPurged (test : Instance → Bool) (old new : List Bucket) : Type 0 where
  pub same_keys : IsPermutation (keys_of old) (keys_of new)
  pub each : (key : Value) → instances_at new key ≡ filter test (instances_at old key)

-- the keys are the same, and none of them lost an instance that passes the test
pub record KeepsAlive (test : Instance → Bool) (old new : List Bucket) : Type 0 where
  pub same_keys : IsPermutation (keys_of old) (keys_of new)
  pub alike : (key : Value) → filter test (instances_at new key) ≡ filter test (instances_at old key)

-- each instance of the buckets from a place on passes the test
abbrev pub PassFrom : (Instance → Bool) → ℕ → List Bucket → Type 0
PassFrom test place buckets = (number : ℕ) (d : Bucket) → place ≤ number → number < length buckets → All (λ instance. test instance ≡ true) (slice_index_or buckets number d).1
