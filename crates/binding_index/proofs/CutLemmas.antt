-- Buckets that pass a test from a place on.
use Rattle.std.proofs.Common.{◌≡◌, sym, subst, ℕ, ◌+◌, ◌-◌, ◌<◌, ◌≤◌, ◌⊎◌, inl, inr, Bool, true, get_or, length, List, arith}
use Rattle.std.specs.Prelude.{Some, slice_get}
use Rattle.std.specs.List.{All, filter, swap}
use Rattle.std.specs.Map.{values_of}
use Rattle.std.proofs.lemmas.Bool.{cases_eq}
use Rattle.std.proofs.lemmas.List.Edits.{swapped_from_swap}
use Rattle.std.proofs.lemmas.List.Elements.{All-same, filter_passes}
use Rattle.std.proofs.lemmas.Option.{get_or_from_slice_get}
use Rattle.event_types.specs.declared.value.Value.{Value}
use Rattle.indexmap.specs.IndexMap.{set_value_at}
use Rattle.instances.specs.declared.instance.Instance.{Instance}
use Rattle.binding_index.specs.Buckets.{AreStarts, Bucket, PassFrom}
use Rattle.binding_index.proofs.ExpiryLemmas.{entry_there}
use Rattle.binding_index.proofs.StoreLemmas.{taken_starts}
use Rattle.binding_index.proofs.WriteLemmas.{length_written, others_written, there_written}

module _ (test : Instance → Bool) where
  abbrev Pass : Bucket → Type 0
  Pass bucket = All (λ (n : Instance). test n ≡ true) bucket.1

  -- they do so once one of them changed places with the last one that has instances
  pub pass_swapped : (place filled : ℕ) (bs cs : List Bucket) → place < filled → filled ≤ length bs → length cs ≡ length bs → cs ≡ swap bs place (filled - 1) → PassFrom test place bs → PassFrom test place cs
  pass_swapped place filled bs cs lt within long e pass n d from low = go (cases_eq n (filled - 1)) (cases_eq n place)
    where
      moved : (get_or cs place d ≡ get_or bs (filled - 1) d) × (get_or cs (filled - 1) d ≡ get_or bs place d) × ((m : ℕ) → (m ≡ place → ⊥) → (m ≡ filled - 1 → ⊥) → get_or cs m d ≡ get_or bs m d)
      moved = swapped_from_swap bs cs place (filled - 1) d (omega arith) (omega arith) e

      there : (m k : ℕ) → place ≤ k → k < length bs → get_or cs m d ≡ get_or bs k d → Pass (get_or cs m d)
      there m k le below bucket = subst Pass (sym bucket) (pass k d le below)

      go : (n ≡ filled - 1) ⊎ (n ≡ filled - 1 → ⊥) → (n ≡ place) ⊎ (n ≡ place → ⊥) → Pass (get_or cs n d)
      go (inl last) _ = subst (λ (m : ℕ). Pass (get_or cs m d)) (sym last) (there (filled - 1) place (omega arith) (omega arith) moved.1)
      go (inr other) (inl here) = subst (λ (m : ℕ). Pass (get_or cs m d)) (sym here) (there place (filled - 1) (omega arith) (omega arith) moved.0)
      go (inr other) (inr apart) = there n n from (omega arith) (moved.2 n apart other)

  -- where the others behind a place pass, and the one there was given what passes of its own, they do from there on
  pub pass_written : (place : ℕ) (bs : List Bucket) (v w : List Instance) → slice_get (values_of bs) place ≡ Some v → w ≡ filter test v → PassFrom test (place + 1) bs → PassFrom test place (set_value_at bs place w)
  pass_written place bs v w at is pass n d from low = go (cases_eq n place)
    where
      own : (key : Value) × (slice_get bs place ≡ Some (key, v))
      own = entry_there bs place v at

      go : (n ≡ place) ⊎ (n ≡ place → ⊥) → Pass (get_or (set_value_at bs place w) n d)
      go (inl here) =
          subst (λ (m : ℕ). Pass (get_or (set_value_at bs place w) m d)) (sym here)
          (subst Pass (sym (get_or_from_slice_get (set_value_at bs place w) place (own.0, w) d (there_written bs place own.0 v w own.1))) (All-same (λ (i : Instance). test i ≡ true) w (filter test v) is (filter_passes test v)))
      go (inr other) = subst Pass (sym (others_written bs place w n d other)) (pass n d (omega (arith, from, other)) (let long = length_written bs place w in omega (arith, low, long)))

  -- what is left of a bucket starts no earlier
  pub starts_cut : (starts : List ℕ) (place : ℕ) (bs : List Bucket) (v w : List Instance) → slice_get (values_of bs) place ≡ Some v → w ≡ filter test v → AreStarts starts bs → AreStarts starts (set_value_at bs place w)
  starts_cut starts place bs v w at is start = let own = entry_there bs place v at in taken_starts test starts bs place own.0 v w own.1 is start
