-- The runs of a FOLD in one epoch.
use Rattle.std.proofs.Common.{◌≡◌, ◌∙◌, sym, ap, refl, subst, ℕ, zero, suc, ◌<◌, ◌≤◌, ◌==◌, Bool, true, false, not, ◌&&◌, cond, nat_lt, length, List, [], ◌∷◌, ◌++◌, map, append-nil, arith}
use Rattle.std.specs.Prelude.{Some}
use Rattle.std.specs.List.{All, filter, flat_map}
use Rattle.std.specs.List.Sorted.{IsPermutation}
use Rattle.std.proofs.lemmas.Bool.Decides.{nat_tests}
use Rattle.std.proofs.lemmas.List.Elements.{filter_passes, All-cons, All-filter, All-weaker, All-map}
use Rattle.std.proofs.lemmas.List.Concat.{flat_map_single}
use Rattle.std.proofs.lemmas.List.Sorted.{IsPermutation-trans, IsPermutation-filter_both}
use Rattle.event_types.specs.Tuple.{TupleView, IsSound}
use Rattle.semantics.specs.Scalars.{Sc, Pr}
use Rattle.semantics.specs.Truth.{all_true}
use Rattle.semantics.specs.Nexts.{is_eligible, nexts, earliest}
use Rattle.semantics.specs.Runs.{goers, rebound, runs}
use Rattle.semantics.proofs.ListLemmas.{filter_swap}
use Rattle.semantics.proofs.ReportLemmas.{filter_all, flat_map_same}
use Rattle.scalar_expr.proofs.Bags.{permuted_from, permuted_to}
use Rattle.scalar_expr.proofs.NextsLemmas.{nexts_keep, nexts_start_later}
use Rattle.scalar_expr.proofs.RunsLemmas.{count, count_most, Fewer, fewer, same_runs}
use Rattle.automaton.specs.Waiting.{is_empty, waits}
use Rattle.epoch_laws.specs.Times.{before, during, IsPast}
use Rattle.epoch_laws.proofs.Bags.{permuted_is, flat_map_parts, flat_map_alike}
use Rattle.epoch_laws.proofs.Cuts.{not_now, is_now, not_less, empty_is, before_nexts, none_early, waits_cut, nexts_now, nexts_then, waits_now}
use Rattle.epoch_laws.proofs.Lists.{All-flat_map, filter-flat_map, filter_alike, flat_map-filter, flat_map-flat_map}

-- each tuple with which a binding goes on starts after the binding was detected
pub goers_start_later : (p q : List Pr) (rs : List TupleView) (b : TupleView) → All (λ r. b.at < r.from) (goers p q rs b)
goers_start_later p q rs b = All-filter (λ r. all_true q r (Some b)) (λ r. b.at < r.from) (nexts p b rs) (nexts_start_later p b rs)

-- what is past is sound
pub sound_past : (time : ℕ) (rs : List TupleView) → All (IsPast time) rs → All IsSound rs
sound_past time rs all = All-weaker (IsPast time) IsSound (λ r h. h.0) rs all

-- the tuples before the last time and those at it are all
pub cut_permuted : (time : ℕ) (xs : List TupleView) → All (λ x. x.at ≤ time) xs → IsPermutation xs (before time xs ++ during time xs)
cut_permuted time xs all =
    permuted_to (IsPermutation-filter_both (λ x. nat_lt x.at time) (λ x. not (nat_lt x.at time)) (λ _. refl) xs)
    (ap (λ ys. before time xs ++ ys) (filter_alike (λ x. not (nat_lt x.at time)) (λ x. x.at == time) xs (All-weaker (λ x. x.at ≤ time) (λ x. not (nat_lt x.at time) ≡ (x.at == time)) (λ x h. same x.at h) xs all)))
  where
    same : (at : ℕ) → at ≤ time → not (nat_lt at time) ≡ (at == time)
    same at h = grind (arith, nat_tests)

-- what is in an epoch is at its time
pub during_at : (time : ℕ) (xs : List TupleView) → All (λ x. x.at ≡ time) (during time xs)
during_at time xs = All-weaker (λ x. (x.at == time) ≡ true) (λ x. x.at ≡ time) (λ x e. is_now time x.at e) (during time xs) (filter_passes (λ x. x.at == time) xs)

-- runs without fuel
pub runs_unfold : (p q : List Pr) (m : List Sc) (rs : List TupleView) → All IsSound rs → (b : TupleView) → runs p q m rs b ≡ flat_map (λ r. rebound m b r ∷ runs p q m rs (rebound m b r)) (goers p q rs b)
runs_unfold p q m rs all b =
    same_runs p q m rs all (length rs) (suc (length rs)) b (count_most b.at rs) (let h : count b.at rs ≤ length rs = count_most b.at rs in omega arith)

-- what holds of a binding where it holds of the new bindings after its nexts holds of every binding
pub runs_induct : (p q : List Pr) (m : List Sc) (rs : List TupleView) → All IsSound rs → (P : TupleView → Type 0) → ((b : TupleView) → All (λ r. P (rebound m b r)) (goers p q rs b) → P b) → (b : TupleView) → P b
runs_induct p q m rs all P step b = within (count b.at rs) b (omega arith)
  where
    nearer : (b : TupleView) → All (λ r. count r.at rs < count b.at rs) (goers p q rs b)
    nearer b i d lt =
        (All-filter (λ r. all_true q r (Some b)) (Fewer b.at rs) (nexts p b rs) (nexts_keep (Fewer b.at rs) p b rs (fewer b.at rs all)) i d lt).1
        (goers_start_later p q rs b i d lt)

    lower : (n : ℕ) (b : TupleView) → count b.at rs ≤ n → (r : TupleView) → count r.at rs < count b.at rs → ((c : TupleView) → count c.at rs < n → P c) → P (rebound m b r)
    lower n b h r less more = more (rebound m b r) (omega arith)

    within : (n : ℕ) (b : TupleView) → count b.at rs ≤ n → P b
    within zero b h = step b (All-weaker (λ r. count r.at rs < count b.at rs) (λ r. P (rebound m b r)) (λ r less. lower zero b h r less (λ c l. absurd (omega arith))) (goers p q rs b) (nearer b))
    within (suc n) b h = step b (All-weaker (λ r. count r.at rs < count b.at rs) (λ r. P (rebound m b r)) (λ r less. lower (suc n) b h r less (λ c l. within n c (omega arith))) (goers p q rs b) (nearer b))

-- a binding without nexts has no runs
pub runs_none : (p q : List Pr) (m : List Sc) (rs : List TupleView) → All IsSound rs → (b : TupleView) → waits p rs b ≡ true → runs p q m rs b ≡ []
runs_none p q m rs all b e =
    runs_unfold p q m rs all b ∙ ap (λ ns. flat_map (λ r. rebound m b r ∷ runs p q m rs (rebound m b r)) (filter (λ r. all_true q r (Some b)) ns)) (empty_is (nexts p b rs) e)

-- the runs before the time are those over the tuples before it
goers_before : (time : ℕ) (p q : List Pr) (rs : List TupleView) (b : TupleView) → before time (goers p q rs b) ≡ goers p q (before time rs) b
goers_before time p q rs b =
    filter_swap (λ r. nat_lt r.at time) (λ r. all_true q r (Some b)) (nexts p b rs) ∙ ap (filter (λ r. all_true q r (Some b))) (before_nexts time p b rs)

-- a binding of the time has no runs over the tuples before it
pub early_none : (time : ℕ) (p q : List Pr) (m : List Sc) (rs : List TupleView) → All IsSound rs → (b : TupleView) → time ≤ b.at → runs p q m (before time rs) b ≡ []
early_none time p q m rs all b late =
    runs_unfold p q m (before time rs) (All-filter (λ r. nat_lt r.at time) IsSound rs all) b
    ∙ ap (λ found. flat_map (λ r. rebound m b r ∷ runs p q m (before time rs) (rebound m b r)) (filter (λ r. all_true q r (Some b)) (earliest found))) (none_early time p b late rs all)

-- the runs before a time are those over what is before it
pub before_runs : (time : ℕ) (p q : List Pr) (m : List Sc) (rs : List TupleView) → All IsSound rs → (b : TupleView) → before time (runs p q m rs b) ≡ runs p q m (before time rs) b
before_runs time p q m rs all = runs_induct p q m rs all (λ b. before time (runs p q m rs b) ≡ runs p q m (before time rs) b) go
  where
    go : (b : TupleView) → All (λ r. before time (runs p q m rs (rebound m b r)) ≡ runs p q m (before time rs) (rebound m b r)) (goers p q rs b) → before time (runs p q m rs b) ≡ runs p q m (before time rs) b
    go b more =
        ap (before time) (runs_unfold p q m rs all b)
        ∙ filter-flat_map (λ r. nat_lt r.at time) (λ r. rebound m b r ∷ runs p q m rs (rebound m b r)) (goers p q rs b)
        ∙ flat_map-filter (λ r. nat_lt r.at time) (λ r. before time (runs p q m rs (rebound m b r)) ≡ runs p q m (before time rs) (rebound m b r))
        (λ r. before time (rebound m b r ∷ runs p q m rs (rebound m b r))) (λ r. rebound m b r ∷ runs p q m (before time rs) (rebound m b r))
        (λ r h e. ap (λ t. cond t (rebound m b r ∷ before time (runs p q m rs (rebound m b r))) (before time (runs p q m rs (rebound m b r)))) e ∙ ap (λ ts. rebound m b r ∷ ts) h)
        (λ r h e. ap (λ t. cond t (rebound m b r ∷ before time (runs p q m rs (rebound m b r))) (before time (runs p q m rs (rebound m b r)))) e ∙ h ∙ early_none time p q m rs all (rebound m b r) (not_less time r.at e))
        (goers p q rs b) more
        ∙ ap (flat_map (λ r. rebound m b r ∷ runs p q m (before time rs) (rebound m b r))) (goers_before time p q rs b)
        ∙ sym (runs_unfold p q m (before time rs) (All-filter (λ r. nat_lt r.at time) IsSound rs all) b)

-- the runs from a binding over tuples of the past are of the past
pub runs_past : (time : ℕ) (p q : List Pr) (m : List Sc) (rs : List TupleView) → All (IsPast time) rs → (b : TupleView) → IsSound b → All (IsPast time) (runs p q m rs b)
runs_past time p q m rs past = runs_induct p q m rs (sound_past time rs past) (λ b. IsSound b → All (IsPast time) (runs p q m rs b)) go
  where
    step : (b r : TupleView) → IsSound b → b.at < r.from → IsPast time r → b.from ≤ r.at
    step b r sound after h = let low = h.0 in omega (arith, sound, low)

    go : (b : TupleView) → All (λ r. b.from ≤ r.at → All (IsPast time) (runs p q m rs (rebound m b r))) (goers p q rs b) → IsSound b → All (IsPast time) (runs p q m rs b)
    go b more sound =
        subst (λ ts. All (IsPast time) ts) (sym (runs_unfold p q m rs (sound_past time rs past) b))
        (All-flat_map (IsPast time) (λ r. rebound m b r ∷ runs p q m rs (rebound m b r)) (goers p q rs b)
        (λ i d lt. one _ (more i d lt) (goers_start_later p q rs b i d lt)
        (All-filter (λ r. all_true q r (Some b)) (IsPast time) (nexts p b rs) (nexts_keep (IsPast time) p b rs past) i d lt)))
      where
        one : (r : TupleView) → (b.from ≤ r.at → All (IsPast time) (runs p q m rs (rebound m b r))) → b.at < r.from → IsPast time r → All (IsPast time) (rebound m b r ∷ runs p q m rs (rebound m b r))
        one r h after here = let low : b.from ≤ r.at = step b r sound after here in All-cons (IsPast time) (rebound m b r) (runs p q m rs (rebound m b r)) (low, here.1) (h low)

-- one binding of a FOLD
module _ (time : ℕ) (p q : List Pr) (m : List Sc) (rs : List TupleView) (all : All (IsPast time) rs) where
  abbrev old : List TupleView
  old = before time rs

  abbrev new : List TupleView
  new = during time rs

  -- the new bindings with the tuples of the last time
  abbrev pub turned : TupleView → List TupleView
  turned b = map (rebound m b) (filter (λ r. all_true q r (Some b)) (filter (is_eligible p b) new))

  -- those that waited before it, of a binding and the runs from it
  abbrev pub stays : TupleView → List TupleView
  stays b = filter (waits p old) (b ∷ runs p q m old b)

  old_sound : All IsSound old
  old_sound = All-filter (λ r. nat_lt r.at time) IsSound rs (sound_past time rs all)

  -- a binding of the last time waits, and has no runs
  pub late_runs : (b : TupleView) → time ≤ b.at → runs p q m rs b ≡ []
  late_runs b late = runs_none p q m rs (sound_past time rs all) b (waits_now time p b late rs all)

  -- a binding that waited before has the new bindings alone as runs
  runs_now : (b : TupleView) → waits p old b ≡ true → runs p q m rs b ≡ turned b
  runs_now b e =
      runs_unfold p q m rs (sound_past time rs all) b
      ∙ ap (λ ns. flat_map (λ r. rebound m b r ∷ runs p q m rs (rebound m b r)) (filter (λ r. all_true q r (Some b)) ns)) (nexts_now time p b rs all e)
      ∙ flat_map_same (λ r. rebound m b r ∷ runs p q m rs (rebound m b r)) (λ r. rebound m b r ∷ []) (filter (λ r. all_true q r (Some b)) (filter (is_eligible p b) new))
      (All-filter (λ r. all_true q r (Some b)) (λ r. rebound m b r ∷ runs p q m rs (rebound m b r) ≡ rebound m b r ∷ []) (filter (is_eligible p b) new)
      (All-filter (is_eligible p b) (λ r. rebound m b r ∷ runs p q m rs (rebound m b r) ≡ rebound m b r ∷ []) new
      (All-weaker (λ r. r.at ≡ time) (λ r. rebound m b r ∷ runs p q m rs (rebound m b r) ≡ rebound m b r ∷ []) (λ r e. ap (λ ts. rebound m b r ∷ ts) (late_runs (rebound m b r) (omega arith))) new (during_at time rs))))
      ∙ flat_map_single (rebound m b) (filter (λ r. all_true q r (Some b)) (filter (is_eligible p b) new))

  -- one that didn't goes on with the tuples that it went on with before
  runs_then : (b : TupleView) → waits p old b ≡ false → runs p q m rs b ≡ flat_map (λ r. rebound m b r ∷ runs p q m rs (rebound m b r)) (goers p q old b)
  runs_then b e =
      runs_unfold p q m rs (sound_past time rs all) b
      ∙ ap (λ ns. flat_map (λ r. rebound m b r ∷ runs p q m rs (rebound m b r)) (filter (λ r. all_true q r (Some b)) ns)) (nexts_then time p b rs all e)

  stays_now : (b : TupleView) → waits p old b ≡ true → stays b ≡ b ∷ []
  stays_now b e =
      ap (λ ts. filter (waits p old) (b ∷ ts)) (runs_none p q m old old_sound b e) ∙ ap (λ t. cond t (b ∷ []) []) e

  stays_then : (b : TupleView) → waits p old b ≡ false → stays b ≡ flat_map (λ r. stays (rebound m b r)) (goers p q old b)
  stays_then b e =
      ap (λ t. cond t (b ∷ filter (waits p old) (runs p q m old b)) (filter (waits p old) (runs p q m old b))) e
      ∙ ap (filter (waits p old)) (runs_unfold p q m old old_sound b)
      ∙ filter-flat_map (waits p old) (λ r. rebound m b r ∷ runs p q m old (rebound m b r)) (goers p q old b)

  -- the goers of earlier times are detected before the last time
  goers_old : (b : TupleView) → All (λ r. nat_lt r.at time ≡ true) (goers p q old b)
  goers_old b =
      All-filter (λ r. all_true q r (Some b)) (λ r. nat_lt r.at time ≡ true) (nexts p b old) (nexts_keep (λ r. nat_lt r.at time ≡ true) p b old (filter_passes (λ r. nat_lt r.at time) rs))

  -- the runs of the last time are the new bindings of those that waited before it
  pub fold_gives : (b : TupleView) → during time (runs p q m rs b) ≡ flat_map turned (stays b)
  fold_gives = runs_induct p q m old old_sound (λ b. during time (runs p q m rs b) ≡ flat_map turned (stays b)) (λ b more. go b more (waits p old b) refl)
    where
      turned_now : (b : TupleView) → during time (turned b) ≡ turned b
      turned_now b = filter_all (λ r. r.at == time) (turned b)
          (All-map (λ r. (r.at == time) ≡ true) (rebound m b) (filter (λ r. all_true q r (Some b)) (filter (is_eligible p b) new))
          (All-filter (λ r. all_true q r (Some b)) (λ r. (r.at == time) ≡ true) (filter (is_eligible p b) new) (All-filter (is_eligible p b) (λ r. (r.at == time) ≡ true) new (filter_passes (λ r. r.at == time) rs))))

      go : (b : TupleView) → All (λ r. during time (runs p q m rs (rebound m b r)) ≡ flat_map turned (stays (rebound m b r))) (goers p q old b) → (t : Bool) → waits p old b ≡ t → during time (runs p q m rs b) ≡ flat_map turned (stays b)
      go b more true e = ap (during time) (runs_now b e) ∙ turned_now b ∙ sym (append-nil (turned b)) ∙ ap (flat_map turned) (sym (stays_now b e))
      go b more false e =
          ap (during time) (runs_then b e)
          ∙ filter-flat_map (λ r. r.at == time) (λ r. rebound m b r ∷ runs p q m rs (rebound m b r)) (goers p q old b)
          ∙ flat_map_same (λ r. during time (rebound m b r ∷ runs p q m rs (rebound m b r))) (λ r. flat_map turned (stays (rebound m b r))) (goers p q old b)
          (λ i d lt. one _ (goers_old b i d lt) (more i d lt))
          ∙ sym (flat_map-flat_map turned (λ r. stays (rebound m b r)) (goers p q old b))
          ∙ ap (flat_map turned) (sym (stays_then b e))
        where
          one : (r : TupleView) → nat_lt r.at time ≡ true → during time (runs p q m rs (rebound m b r)) ≡ flat_map turned (stays (rebound m b r)) → during time (rebound m b r ∷ runs p q m rs (rebound m b r)) ≡ flat_map turned (stays (rebound m b r))
          one r lt h = ap (λ t. cond t (rebound m b r ∷ during time (runs p q m rs (rebound m b r))) (during time (runs p q m rs (rebound m b r)))) (not_now time r.at lt) ∙ h

  abbrev unmet : TupleView → Bool
  unmet b = is_empty (filter (is_eligible p b) new)

  abbrev Keeps : TupleView → Type 0
  Keeps b = IsPermutation (filter (waits p rs) (b ∷ runs p q m rs b)) (filter unmet (stays b) ++ flat_map turned (stays b))

  abbrev next : TupleView → List TupleView
  next b = flat_map (λ r. rebound m b r ∷ runs p q m rs (rebound m b r)) (goers p q old b)

  -- what waits after it: those that waited before it without an is_eligible tuple, and their new bindings
  pub fold_keeps : (b : TupleView) → Keeps b
  fold_keeps = runs_induct p q m old old_sound Keeps (λ b more. go b more (waits p old b) refl)
    where
      turned_waits : (b : TupleView) → filter (waits p rs) (turned b) ≡ turned b
      turned_waits b = filter_all (waits p rs) (turned b)
          (All-map (λ r. waits p rs r ≡ true) (rebound m b) (filter (λ r. all_true q r (Some b)) (filter (is_eligible p b) new))
          (All-filter (λ r. all_true q r (Some b)) (λ r. waits p rs (rebound m b r) ≡ true) (filter (is_eligible p b) new)
          (All-filter (is_eligible p b) (λ r. waits p rs (rebound m b r) ≡ true) new
          (All-weaker (λ r. r.at ≡ time) (λ r. waits p rs (rebound m b r) ≡ true) (λ r e. waits_now time p (rebound m b r) (omega arith) rs all) new (during_at time rs)))))

      go : (b : TupleView) → All (λ r. Keeps (rebound m b r)) (goers p q old b) → (t : Bool) → waits p old b ≡ t → Keeps b
      go b more true e =
          permuted_is (ap (λ ts. filter (waits p rs) (b ∷ ts)) (runs_now b e)
          ∙ (λ i. cond (waits_cut time p b rs all i) (b ∷ turned_waits b i) (turned_waits b i))
          ∙ ap (λ t. cond (t && unmet b) (b ∷ turned b) (turned b)) e
          ∙ last (unmet b)
          ∙ sym (ap (λ ts. filter unmet ts ++ flat_map turned ts) (stays_now b e)))
        where
          last : (t : Bool) → cond t (b ∷ turned b) (turned b) ≡ cond t (b ∷ []) [] ++ (turned b ++ [])
          last true = ap (λ ts. b ∷ ts) (sym (append-nil (turned b)))
          last false = sym (append-nil (turned b))
      go b more false e =
          permuted_from (ap (λ ts. filter (waits p rs) (b ∷ ts)) (runs_then b e)
          ∙ ap (λ t. cond t (b ∷ filter (waits p rs) (next b)) (filter (waits p rs) (next b))) (waits_cut time p b rs all ∙ ap (λ t. t && unmet b) e)
          ∙ filter-flat_map (waits p rs) (λ r. rebound m b r ∷ runs p q m rs (rebound m b r)) (goers p q old b))
          (permuted_to
          (IsPermutation-trans _ _ _
          (flat_map_alike (λ r. filter (waits p rs) (rebound m b r ∷ runs p q m rs (rebound m b r))) (λ r. filter unmet (stays (rebound m b r)) ++ flat_map turned (stays (rebound m b r))) (goers p q old b) more)
          (flat_map_parts (λ r. filter unmet (stays (rebound m b r))) (λ r. flat_map turned (stays (rebound m b r))) (goers p q old b)))
          (sym (λ i. filter-flat_map unmet (λ r. stays (rebound m b r)) (goers p q old b) i ++ flat_map-flat_map turned (λ r. stays (rebound m b r)) (goers p q old b) i)
          ∙ sym (ap (λ ts. filter unmet ts ++ flat_map turned ts) (stays_then b e))))
