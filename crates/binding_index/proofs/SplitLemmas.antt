-- Buckets of which those with instances come first.
use Rattle.std.proofs.Common.{◌≡◌, ◌∙◌, sym, ap, refl, ℕ, zero, suc, ◌-◌, ◌<◌, ◌≤◌, ◌⊎◌, inl, inr, true, false, cond, get_or, take, length, List, [], ◌∷◌, nat_lt, arith}
use Rattle.std.specs.List.{filter, swap}
use Rattle.std.proofs.lemmas.Bool.{cases_eq, le-ltb, lt-ltb}
use Rattle.std.proofs.lemmas.Bool.Decides.{nat_tests}
use Rattle.std.proofs.lemmas.List.Edits.{swapped_from_swap}
use Rattle.std.proofs.lemmas.List.Elements.{filter_passes}
use Rattle.binding_index.specs.Buckets.{Bucket, IsSplit, IsSplitBut}
use Rattle.binding_index.specs.Entries.{is_filled}

-- a bucket that was emptied changes places with the last one that has instances
pub set_aside : (filled place : ℕ) (bs cs : List Bucket) → filled ≤ length bs → place < filled → length cs ≡ length bs → IsSplitBut place filled bs
    → ((d : Bucket) → is_filled (get_or bs place d) ≡ false) → cs ≡ swap bs place (filled - 1) → IsSplit (filled - 1) cs
set_aside filled place bs cs within lt long split gone e n d low = go (cases_eq n (filled - 1)) (cases_eq n place)
  where
    moved : (get_or cs place d ≡ get_or bs (filled - 1) d) × (get_or cs (filled - 1) d ≡ get_or bs place d) × ((m : ℕ) → (m ≡ place → ⊥) → (m ≡ filled - 1 → ⊥) → get_or cs m d ≡ get_or bs m d)
    moved = swapped_from_swap bs cs place (filled - 1) d (omega arith) (omega arith) e

    go : (n ≡ filled - 1) ⊎ (n ≡ filled - 1 → ⊥) → (n ≡ place) ⊎ (n ≡ place → ⊥) → is_filled (get_or cs n d) ≡ nat_lt n (filled - 1)
    go (inl last) _ = ap (λ m. is_filled (get_or cs m d)) last ∙ ap is_filled moved.1 ∙ gone d ∙ sym (le-ltb n (filled - 1) (omega arith))
    go (inr other) (inl here) =
        ap (λ m. is_filled (get_or cs m d)) here ∙ ap is_filled moved.0 ∙ split (filled - 1) d (λ h. other (here ∙ sym h)) (omega arith) ∙ lt-ltb (filled - 1) filled (omega arith) ∙ sym (lt-ltb n (filled - 1) (omega arith))
    go (inr other) (inr apart) = ap is_filled (moved.2 n apart other) ∙ split n d apart (omega arith) ∙ near
      where
        near : nat_lt n filled ≡ nat_lt n (filled - 1)
        near = grind (arith, nat_tests)

-- a bucket with instances stands among the first
pub stands : (filled place : ℕ) (bs : List Bucket) → place < filled → IsSplitBut place filled bs → ((d : Bucket) → is_filled (get_or bs place d) ≡ true) → IsSplit filled bs
stands filled place bs low split here n d lt = go (cases_eq n place)
  where
    go : (n ≡ place) ⊎ (n ≡ place → ⊥) → is_filled (get_or bs n d) ≡ nat_lt n filled
    go (inl e) = ap (λ m. is_filled (get_or bs m d)) e ∙ here d ∙ sym (lt-ltb n filled (omega arith))
    go (inr apart) = split n d apart lt

-- all that are kept have instances
pub all_filled : (bs : List Bucket) → IsSplit (length (filter is_filled bs)) (filter is_filled bs)
all_filled bs n d lt = filter_passes is_filled bs n d lt ∙ sym (lt-ltb n (length (filter is_filled bs)) lt)

-- where none comes before the first without instances, none has any
none_filled : (bs : List Bucket) → IsSplit 0 bs → filter is_filled bs ≡ []
none_filled [] split = refl
none_filled (b ∷ bs) split =
    ap (λ t. cond t (b ∷ filter is_filled bs) (filter is_filled bs)) (split 0 b (omega arith) ∙ le-ltb 0 0 (omega arith))
    ∙ none_filled bs (λ n d lt. split (suc n) d (omega arith) ∙ le-ltb (suc n) 0 (omega arith) ∙ sym (le-ltb n 0 (omega arith)))

-- where those with instances come first, they are the first so many
pub first_filled : (filled : ℕ) (bs : List Bucket) → IsSplit filled bs → take filled bs ≡ filter is_filled bs
first_filled zero bs split = sym (none_filled bs split)
first_filled (suc filled) [] split = refl
first_filled (suc filled) (b ∷ bs) split =
    ap (λ cs. b ∷ cs) (first_filled filled bs (λ n d lt. split (suc n) d (omega arith) ∙ less n filled))
    ∙ sym (ap (λ t. cond t (b ∷ filter is_filled bs) (filter is_filled bs)) (split 0 b (omega arith) ∙ lt-ltb 0 (suc filled) (omega arith)))
  where
    less : (n filled : ℕ) → nat_lt (suc n) (suc filled) ≡ nat_lt n filled
    less n filled = grind (arith, nat_tests)
