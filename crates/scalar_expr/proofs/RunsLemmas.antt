-- The runs from a binding end.
use Rattle.std.proofs.Common.{◌≡◌, ◌∙◌, sym, ap, refl, ℕ, zero, suc, ◌+◌, ◌<◌, ◌≤◌, false, ◌&&◌, cond, nat_lt, length, List, [], ◌∷◌, arith}
use Rattle.std.specs.Prelude.{Some}
use Rattle.std.specs.List.{All, filter, flat_map}
use Rattle.std.proofs.lemmas.Bool.Decides.{nat_tests}
use Rattle.std.proofs.lemmas.List.Elements.{All-nil, All-cons, All-head, All-tail, All-weaker, All-filter}
use Rattle.event_types.specs.Tuple.{TupleView, IsSound}
use Rattle.semantics.specs.Scalars.{Sc, Pr}
use Rattle.semantics.specs.Truth.{all_true}
use Rattle.semantics.specs.Nexts.{earliest, is_eligible, nexts}
use Rattle.semantics.specs.Runs.{goers, rebound, runs, runs_within}
use Rattle.scalar_expr.proofs.NextsLemmas.{nexts_keep, nexts_start_later}
use Rattle.semantics.proofs.ReportLemmas.{flat_map_same}

-- the new binding, and the runs from it of at most n events
abbrev branch : ℕ → List Pr → List Pr → List Sc → List TupleView → TupleView → TupleView → List TupleView
branch n p q m rs b r = rebound m b r ∷ runs_within n p q m rs (rebound m b r)

-- each goer starts after the binding was detected
pub goers_start_later : (p q : List Pr) (rs : List TupleView) (b : TupleView) → All (λ r. b.at < r.from) (goers p q rs b)
goers_start_later p q rs b = All-filter (λ r. all_true q r (Some b)) (λ r. b.at < r.from) (nexts p b rs) (nexts_start_later p b rs)

-- 1 where a tuple that starts at the second time starts after the first
abbrev pub after : ℕ → ℕ → ℕ
after time from = cond (nat_lt time from) 1 0

-- how many start after a time
abbrev pub count : ℕ → List TupleView → ℕ
count time [] = 0
count time (r ∷ rs) = after time r.from + count time rs

after_falls : (s t from : ℕ) → s ≤ t → after t from ≤ after s from
after_falls s t from h = grind (arith, nat_tests)

after_one : (s from : ℕ) → s < from → after s from ≡ 1
after_one s from h = grind (arith, nat_tests)

after_none : (s from : ℕ) → from ≤ s → after s from ≡ 0
after_none s from h = grind (arith, nat_tests)

after_most : (s from : ℕ) → after s from ≤ 1
after_most s from = grind (arith, nat_tests)

not_after : (s from : ℕ) → after s from ≡ 0 → nat_lt s from ≡ false
not_after s from h = grind (arith, nat_tests)

count_falls : (s t : ℕ) → s ≤ t → (rs : List TupleView) → count t rs ≤ count s rs
count_falls s t h [] = omega arith
count_falls s t h (r ∷ rs) = omega (arith, after_falls s t r.from h, count_falls s t h rs)

-- at most all are counted
pub count_most : (s : ℕ) (rs : List TupleView) → count s rs ≤ length rs
count_most s [] = omega arith
count_most s (r ∷ rs) = omega (arith, after_most s r.from, count_most s rs)

-- what is sound, and where it starts after a time, fewer start after it than after that time
abbrev pub Fewer : ℕ → List TupleView → TupleView → Type 0
Fewer time rs r = IsSound r × (time < r.from → count r.at rs < count time rs)

-- among sound tuples fewer start behind one that starts after a time than behind that time
pub fewer : (time : ℕ) (rs : List TupleView) → All IsSound rs → All (Fewer time rs) rs
fewer time [] all = All-nil (Fewer time [])
fewer time (x ∷ rs) all =
    All-cons (Fewer time (x ∷ rs)) x rs (All-head IsSound x rs all, head (All-head IsSound x rs all))
    (All-weaker (Fewer time rs) (Fewer time (x ∷ rs)) (λ r h. (h.0, tail r h.0 h.1)) rs (fewer time rs (All-tail IsSound x rs all)))
  where
    head : x.from ≤ x.at → time < x.from → count x.at (x ∷ rs) < count time (x ∷ rs)
    head sound lt = omega (arith, after_one time x.from lt, after_none x.at x.from sound, count_falls time x.at (omega arith) rs)

    tail : (r : TupleView) → r.from ≤ r.at → (time < r.from → count r.at rs < count time rs) → time < r.from → count r.at (x ∷ rs) < count time (x ∷ rs)
    tail r sound h lt = omega (arith, h lt, after_falls time r.at x.from (omega arith))

none_after : (p : List Pr) (b : TupleView) (rs : List TupleView) → count b.at rs ≤ 0 → filter (is_eligible p b) rs ≡ []
none_after p b [] h = refl
none_after p b (r ∷ rs) h =
    let no : nat_lt b.at r.from ≡ false = not_after b.at r.from (omega arith) in
    ap (λ t. cond (t && all_true p r (Some b)) (r ∷ filter (is_eligible p b) rs) (filter (is_eligible p b) rs)) no ∙ none_after p b rs (omega arith)

no_runs : (n : ℕ) (p q : List Pr) (m : List Sc) (rs : List TupleView) (b : TupleView) → count b.at rs ≤ 0 → runs_within n p q m rs b ≡ []
no_runs zero p q m rs b h = refl
no_runs (suc n) p q m rs b h = ap (λ found. flat_map (branch n p q m rs b) (filter (λ r. all_true q r (Some b)) (earliest found))) (none_after p b rs h)

-- fuel for each tuple that starts after the binding is enough
pub same_runs : (p q : List Pr) (m : List Sc) (rs : List TupleView) → All IsSound rs → (n k : ℕ) (b : TupleView) → count b.at rs ≤ n → count b.at rs ≤ k → runs_within n p q m rs b ≡ runs_within k p q m rs b
same_runs p q m rs all zero k b h g = sym (no_runs k p q m rs b h)
same_runs p q m rs all (suc n) zero b h g = no_runs (suc n) p q m rs b g
same_runs p q m rs all (suc n) (suc k) b h g = go (λ c f g. same_runs p q m rs all n k c f g)
  where
    go : ((c : TupleView) → count c.at rs ≤ n → count c.at rs ≤ k → runs_within n p q m rs c ≡ runs_within k p q m rs c) → runs_within (suc n) p q m rs b ≡ runs_within (suc k) p q m rs b
    go more =
        flat_map_same (branch n p q m rs b) (branch k p q m rs b) (goers p q rs b)
        (λ i d lt. one _ (goers_start_later p q rs b i d lt) (All-filter (λ r. all_true q r (Some b)) (Fewer b.at rs) (nexts p b rs) (nexts_keep (Fewer b.at rs) p b rs (fewer b.at rs all)) i d lt))
      where
        one : (r : TupleView) → b.at < r.from → Fewer b.at rs r → branch n p q m rs b r ≡ branch k p q m rs b r
        one r lt f = let less : count r.at rs < count b.at rs = f.1 lt in ap (λ ts. rebound m b r ∷ ts) (more (rebound m b r) (omega arith) (omega arith))

-- more events than there are tuples make no further run
pub runs_end : (p q : List Pr) (m : List Sc) (rs : List TupleView) → All IsSound rs → (n : ℕ) (b : TupleView) → length rs ≤ n → runs_within n p q m rs b ≡ runs p q m rs b
runs_end p q m rs all n b enough = same_runs p q m rs all n (length rs) b (omega (arith, count_most b.at rs)) (count_most b.at rs)
