-- Buckets of which some are noted, since they may have no instance.
use Rattle.std.proofs.Common.{◌≡◌, ◌∙◌, sym, ap, refl, subst, ℕ, ◌+◌, ◌-◌, ◌<◌, ◌≤◌, ◌⊎◌, inl, inr, true, false, get_or, length, List, [], ◌∷◌, ◌++◌, Contains, nat_lt, arith}
use Rattle.std.specs.List.{swap}
use Rattle.std.proofs.lemmas.Bool.{cases_eq, cases_lt, le-ltb, lt-ltb}
use Rattle.std.proofs.lemmas.List.Edits.{swapped_from_swap}
use Rattle.std.proofs.lemmas.List.Elements.{Contains-append_left, Contains-push, Contains-push_cases}
use Rattle.std.proofs.lemmas.List.Sorted.{IsPermutation-refl, IsPermutation-trans}
use Rattle.indexmap.specs.IndexMap.{set_value_at}
use Rattle.instances.specs.declared.instance.Instance.{Instance}
use Rattle.binding_index.specs.Buckets.{AreSame, Bucket, IsSplit, IsSplitAside, IsSplitAsideBut}
use Rattle.binding_index.specs.Entries.{is_filled}
use Rattle.binding_index.proofs.WriteLemmas.{length_written, others_written}

-- where none is noted, those with instances come first
pub none_noted : (filled : ℕ) (bs : List Bucket) → IsSplitAside [] filled bs → IsSplit filled bs
none_noted filled bs split n d lt = go (cases_lt n filled)
  where
    there : n < filled → (is_filled (get_or bs n d) ≡ true) ⊎ Contains [] n → is_filled (get_or bs n d) ≡ nat_lt n filled
    there low (inl is) = is ∙ sym (lt-ltb n filled low)
    there low (inr (m, none, is)) = absurd (omega (arith, none))

    go : (n < filled) ⊎ (filled ≤ n) → is_filled (get_or bs n d) ≡ nat_lt n filled
    go (inl low) = there low (split.before n d low lt)
    go (inr high) = split.behind n d high lt ∙ sym (le-ltb n filled high)

-- where those with instances come first, any may be noted
pub any_noted : (noted : List ℕ) (filled : ℕ) (bs : List Bucket) → IsSplit filled bs → IsSplitAside noted filled bs
any_noted noted filled bs split = record {
  before = λ n d low lt. inl (split n d lt ∙ lt-ltb n filled low);
  behind = λ n d high lt. split n d lt ∙ le-ltb n filled high;
}

-- one bucket is written, and the others are noted as they were
pub noted_written : (noted : List ℕ) (filled : ℕ) (bs : List Bucket) (i : ℕ) (w : List Instance) → IsSplitAside noted filled bs → IsSplitAsideBut i noted filled (set_value_at bs i w)
noted_written noted filled bs i w split = record {
  before = λ n d other low lt.
      let long = length_written bs i w in
      subst (λ (b : Bucket). (is_filled b ≡ true) ⊎ Contains noted n) (sym (others_written bs i w n d other)) (split.before n d low (omega (arith, lt, long)));
  behind = λ n d other high lt.
      let long = length_written bs i w in
      ap is_filled (others_written bs i w n d other) ∙ split.behind n d high (omega (arith, lt, long));
}

module _ (place : ℕ) (noted : List ℕ) (filled : ℕ) (bs : List Bucket) (split : IsSplitAsideBut place noted filled bs) where
  -- a bucket with instances stays among those with instances
  pub stays_noted : place < filled → ((d : Bucket) → is_filled (get_or bs place d) ≡ true) → IsSplitAside noted filled bs
  stays_noted low some = record {
    before = λ n d below lt. before n d below lt (cases_eq n place);
    behind = λ n d high lt. split.behind n d (λ e. absurd (omega (arith, e, low, high))) high lt;
  }
    where
      before : (n : ℕ) (d : Bucket) → n < filled → n < length bs → (n ≡ place) ⊎ (n ≡ place → ⊥) → (is_filled (get_or bs n d) ≡ true) ⊎ Contains noted n
      before n d below lt (inl here) = inl (ap (λ m. is_filled (get_or bs m d)) here ∙ some d)
      before n d below lt (inr other) = split.before n d other below lt

  -- a bucket without instances may be noted
  pub with_noted : ((d : Bucket) → is_filled (get_or bs place d) ≡ false) → IsSplitAside (noted ++ place ∷ []) filled bs
  with_noted none = record {
    before = λ n d below lt. before n d below lt (cases_eq n place);
    behind = λ n d high lt. behind n d high lt (cases_eq n place);
  }
    where
      more : (n : ℕ) (d : Bucket) → (is_filled (get_or bs n d) ≡ true) ⊎ Contains noted n → (is_filled (get_or bs n d) ≡ true) ⊎ Contains (noted ++ place ∷ []) n
      more n d (inl is) = inl is
      more n d (inr among) = inr (Contains-append_left noted (place ∷ []) n among)

      before : (n : ℕ) (d : Bucket) → n < filled → n < length bs → (n ≡ place) ⊎ (n ≡ place → ⊥) → (is_filled (get_or bs n d) ≡ true) ⊎ Contains (noted ++ place ∷ []) n
      before n d below lt (inl here) = inr (subst (Contains (noted ++ place ∷ [])) (sym here) (Contains-push noted place))
      before n d below lt (inr other) = more n d (split.before n d other below lt)

      behind : (n : ℕ) (d : Bucket) → filled ≤ n → n < length bs → (n ≡ place) ⊎ (n ≡ place → ⊥) → is_filled (get_or bs n d) ≡ false
      behind n d high lt (inl here) = ap (λ m. is_filled (get_or bs m d)) here ∙ none d
      behind n d high lt (inr other) = split.behind n d other high lt

  -- a bucket that got an instance changes places with the first one behind
  pub forward_noted : (cs : List Bucket) → place < length bs → filled ≤ place → length cs ≡ length bs → ((d : Bucket) → is_filled (get_or bs place d) ≡ true) → cs ≡ swap bs place filled → IsSplitAside noted (filled + 1) cs
  forward_noted cs within le long some e = record {
    before = λ n d below lt. before n d below (omega (arith, lt, long)) (cases_eq n filled);
    behind = λ n d high lt. behind n d high (omega (arith, lt, long)) (cases_eq n place);
  }
    where
      moved : (d : Bucket) → (get_or cs place d ≡ get_or bs filled d) × (get_or cs filled d ≡ get_or bs place d) × ((m : ℕ) → (m ≡ place → ⊥) → (m ≡ filled → ⊥) → get_or cs m d ≡ get_or bs m d)
      moved d = swapped_from_swap bs cs place filled d within (omega arith) e

      before : (n : ℕ) (d : Bucket) → n < filled + 1 → n < length bs → (n ≡ filled) ⊎ (n ≡ filled → ⊥) → (is_filled (get_or cs n d) ≡ true) ⊎ Contains noted n
      before n d below lt (inl last) = inl (ap (λ m. is_filled (get_or cs m d)) last ∙ ap is_filled ((moved d).1) ∙ some d)
      before n d below lt (inr other) =
          let apart : n ≡ place → ⊥ = λ h. omega (arith, h, le, below, other) in
          subst (λ (b : Bucket). (is_filled b ≡ true) ⊎ Contains noted n) (sym ((moved d).2 n apart other)) (split.before n d apart (omega (arith, below, other)) lt)

      behind : (n : ℕ) (d : Bucket) → filled + 1 ≤ n → n < length bs → (n ≡ place) ⊎ (n ≡ place → ⊥) → is_filled (get_or cs n d) ≡ false
      behind n d high lt (inl here) =
          ap (λ m. is_filled (get_or cs m d)) here ∙ ap is_filled ((moved d).0) ∙ split.behind filled d (λ h. omega (arith, h, here, high)) (omega arith) (omega (arith, le, within))
      behind n d high lt (inr apart) = ap is_filled ((moved d).2 n apart (λ h. omega (arith, h, high))) ∙ split.behind n d apart (omega (arith, high)) lt

-- the last noted bucket is arranged, where those between two places have no instances
module _ (place : ℕ) (noted : List ℕ) (filled last : ℕ) (bs : List Bucket) (split : IsSplitAside (noted ++ place ∷ []) filled bs) (less : last ≤ filled)
    (between : (n : ℕ) (d : Bucket) → last ≤ n → n < filled → is_filled (get_or bs n d) ≡ false) where
  -- those from there on have none
  behind_last : (n : ℕ) (d : Bucket) → last ≤ n → n < length bs → is_filled (get_or bs n d) ≡ false
  behind_last n d high lt = go (cases_lt n filled)
    where
      go : (n < filled) ⊎ (filled ≤ n) → is_filled (get_or bs n d) ≡ false
      go (inl low) = between n d high low
      go (inr past) = split.behind n d past lt

  -- those before it are noted otherwise, or have some
  before_last : (n : ℕ) (d : Bucket) → (n ≡ place → ⊥) → n < last → n < length bs → (is_filled (get_or bs n d) ≡ true) ⊎ Contains noted n
  before_last n d other low lt = go (split.before n d (omega (arith, low, less)) lt)
    where
      left : Contains noted n ⊎ (place ≡ n) → (is_filled (get_or bs n d) ≡ true) ⊎ Contains noted n
      left (inl among) = inr among
      left (inr is) = absurd (other (sym is))

      go : (is_filled (get_or bs n d) ≡ true) ⊎ Contains (noted ++ place ∷ []) n → (is_filled (get_or bs n d) ≡ true) ⊎ Contains noted n
      go (inl is) = inl is
      go (inr among) = left (Contains-push_cases noted place n among)

  -- it stands behind them already, or has instances
  pub stands_noted : (last ≤ place) ⊎ ((d : Bucket) → is_filled (get_or bs place d) ≡ true) → IsSplitAside noted last bs
  stands_noted why = record {
    before = λ n d low lt. go n d low lt (cases_eq n place) why;
    behind = behind_last;
  }
    where
      go : (n : ℕ) (d : Bucket) → n < last → n < length bs → (n ≡ place) ⊎ (n ≡ place → ⊥) → (last ≤ place) ⊎ ((d : Bucket) → is_filled (get_or bs place d) ≡ true) → (is_filled (get_or bs n d) ≡ true) ⊎ Contains noted n
      go n d low lt (inr other) _ = before_last n d other low lt
      go n d low lt (inl here) (inl far) = absurd (omega (arith, low, here, far))
      go n d low lt (inl here) (inr some) = inl (ap (λ m. is_filled (get_or bs m d)) here ∙ some d)

  -- or it changes places with the last one that has some
  pub back_noted : (cs : List Bucket) → last ≤ length bs → place < last → length cs ≡ length bs → ((d : Bucket) → is_filled (get_or bs place d) ≡ false) → ((d : Bucket) → is_filled (get_or bs (last - 1) d) ≡ true)
      → cs ≡ swap bs place (last - 1) → IsSplitAside noted (last - 1) cs
  back_noted cs within low long none some e = record {
    before = λ n d below lt. before n d below (omega (arith, lt, long)) (cases_eq n place);
    behind = λ n d high lt. behind n d high (omega (arith, lt, long)) (cases_eq n (last - 1));
  }
    where
      moved : (d : Bucket) → (get_or cs place d ≡ get_or bs (last - 1) d) × (get_or cs (last - 1) d ≡ get_or bs place d) × ((m : ℕ) → (m ≡ place → ⊥) → (m ≡ last - 1 → ⊥) → get_or cs m d ≡ get_or bs m d)
      moved d = swapped_from_swap bs cs place (last - 1) d (omega (arith, low, within)) (omega (arith, low, within)) e

      before : (n : ℕ) (d : Bucket) → n < last - 1 → n < length bs → (n ≡ place) ⊎ (n ≡ place → ⊥) → (is_filled (get_or cs n d) ≡ true) ⊎ Contains noted n
      before n d below lt (inl here) = inl (ap (λ m. is_filled (get_or cs m d)) here ∙ ap is_filled ((moved d).0) ∙ some d)
      before n d below lt (inr apart) =
          subst (λ (b : Bucket). (is_filled b ≡ true) ⊎ Contains noted n) (sym ((moved d).2 n apart (λ h. omega (arith, h, below)))) (before_last n d apart (omega (arith, below)) lt)

      behind : (n : ℕ) (d : Bucket) → last - 1 ≤ n → n < length bs → (n ≡ last - 1) ⊎ (n ≡ last - 1 → ⊥) → is_filled (get_or cs n d) ≡ false
      behind n d high lt (inl here) = ap (λ m. is_filled (get_or cs m d)) here ∙ ap is_filled ((moved d).1) ∙ none d
      behind n d high lt (inr other) =
          ap is_filled ((moved d).2 n (λ h. omega (arith, h, high, other, low)) other) ∙ behind_last n d (omega (arith, high, other)) lt

-- buckets are the same as themselves
pub same_itself : (bs : List Bucket) → AreSame bs bs
same_itself bs = record { permuted = IsPermutation-refl bs; same = λ key. refl }

-- and as those that others are the same as
pub same_on : (bs cs ds : List Bucket) → AreSame bs cs → AreSame cs ds → AreSame bs ds
same_on bs cs ds one two = record {
  permuted = IsPermutation-trans bs cs ds one.permuted two.permuted;
  same = λ key. two.same key ∙ one.same key;
}
