-- Tuples of one sort, whose matches are made of tuples of one sort.
use Rattle.std.proofs.Common.{◌≡◌, ◌∙◌, sym, ap, refl, ℕ, zero, suc, ◌<◌, ◌≤◌, Bool, true, false, ◌&&◌, cond, nat_lt, length, get_or, List, [], ◌∷◌, ◌++◌, map, arith}
use Rattle.std.specs.Prelude.{Some}
use Rattle.std.specs.List.{All, filter, flat_map}
use Rattle.std.proofs.lemmas.Bool.Decides.{nat_tests}
use Rattle.std.proofs.lemmas.List.Elements.{All-cons, All-filter, All-head, All-map, All-nil, All-tail, All-weaker, filter-append, filter_agree, filter_passes}
use Rattle.std.proofs.lemmas.List.Sums.{count_by-le-length, length-filter}
use Rattle.event_types.specs.Tuple.{IsSound, TupleView}
use Rattle.semantics.specs.Denotation.{joined, matches}
use Rattle.semantics.specs.Nexts.{earliest, is_earliest, is_eligible, nexts}
use Rattle.semantics.specs.Runs.{goers, rebound, runs, runs_within}
use Rattle.semantics.specs.Scalars.{Pr, Sc}
use Rattle.semantics.specs.Truth.{all_true}
use Rattle.semantics.proofs.ListLemmas.{All-flat_map, filter-filter}
use Rattle.semantics.proofs.ReportLemmas.{filter_all, filter_none, flat_map_same}
use Rattle.scalar_expr.proofs.NextsLemmas.{nexts_keep}
use Rattle.scalar_expr.proofs.RunsLemmas.{runs_end}

-- false beside anything is false
and-false : (b : Bool) → (b && false) ≡ false
and-false true = refl
and-false false = refl

-- a test that follows from another adds nothing to it
pub absorbed : (a b : Bool) → (a ≡ true → b ≡ true) → a ≡ (b && a)
absorbed true b h = sym (ap (λ t. t && true) (h refl))
absorbed false b h = sym (and-false b)

-- of a true conjunction the first part is true
first_true : (x y : Bool) → (x && y) ≡ true → x ≡ true
first_true true y e = refl
first_true false y e = e

module _ {X Y : Type 0} (test : Y → Bool) (given : X → Bool) (f : X → List Y) where
  -- where the test of what an item gives is that of the item, what passes is given by the items that pass
  pub filter-given : (xs : List X) → All (λ x. All (λ y. test y ≡ given x) (f x)) xs → filter test (flat_map f xs) ≡ flat_map f (filter given xs)
  filter-given [] all = refl
  filter-given (x ∷ xs) all =
      filter-append test (f x) (flat_map f xs) ∙ go (filter-given xs (All-tail (λ x. All (λ y. test y ≡ given x) (f x)) x xs all)) (given x) refl
    where
      told : (b : Bool) → given x ≡ b → All (λ y. test y ≡ b) (f x)
      told b e = All-weaker (λ y. test y ≡ given x) (λ y. test y ≡ b) (λ y h. h ∙ e) (f x) (All-head (λ x. All (λ y. test y ≡ given x) (f x)) x xs all)

      go : filter test (flat_map f xs) ≡ flat_map f (filter given xs) → (b : Bool) → given x ≡ b → filter test (f x) ++ filter test (flat_map f xs) ≡ flat_map f (cond b (x ∷ filter given xs) (filter given xs))
      go rest true e = λ i. filter_all test (f x) (told true e) i ++ rest i
      go rest false e = λ i. filter_none test (f x) (told false e) i ++ rest i

-- each of the nexts is eligible
nexts_eligible : (p : List Pr) (b : TupleView) (rs : List TupleView) → All (λ r. is_eligible p b r ≡ true) (nexts p b rs)
nexts_eligible p b rs =
    All-filter (is_earliest (filter (is_eligible p b) rs)) (λ r. is_eligible p b r ≡ true) (filter (is_eligible p b) rs) (filter_passes (is_eligible p b) rs)

-- what is eligible starts after the binding was detected
pub eligible_later : (p : List Pr) (b r : TupleView) → is_eligible p b r ≡ true → b.at < r.from
eligible_later p b r e = let later : nat_lt b.at r.from ≡ true = first_true _ _ e in grind (arith, nat_tests)

-- where each eligible tuple is kept, the nexts are those among the kept ones
pub nexts_kept : (keep : TupleView → Bool) (p : List Pr) (b : TupleView) → ((r : TupleView) → is_eligible p b r ≡ true → keep r ≡ true) → (rs : List TupleView) → nexts p b rs ≡ nexts p b (filter keep rs)
nexts_kept keep p b kept rs =
    ap earliest (filter_agree (is_eligible p b) (λ r. keep r && is_eligible p b r) (λ r. absorbed (is_eligible p b r) (keep r) (kept r)) rs ∙ sym (filter-filter (is_eligible p b) keep rs))

-- a filter makes no list longer
filter_shorter : (keep : TupleView → Bool) (rs : List TupleView) → length (filter keep rs) ≤ length rs
filter_shorter keep rs = omega (arith, length-filter keep rs, count_by-le-length keep rs)

module _ (test keep : TupleView → Bool) (p : List Pr) (kept : (b r : TupleView) → IsSound b → test b ≡ true → is_eligible p b r ≡ true → keep r ≡ true) where
  -- the matches of the bindings that pass are those among the kept tuples
  pub matches_sifted : ((b r : TupleView) → is_eligible p b r ≡ true → test (joined b r) ≡ test b) → (bs rs : List TupleView) → All IsSound bs
      → filter test (flat_map (matches p rs) bs) ≡ flat_map (matches p (filter keep rs)) (filter test bs)
  matches_sifted tells bs rs sound =
      filter-given test test (matches p rs) bs (λ k d lt. each (get_or bs k d))
      ∙ flat_map_same (matches p rs) (matches p (filter keep rs)) (filter test bs)
      (λ k d lt. one (get_or (filter test bs) k d) (All-filter test IsSound bs sound k d lt) (filter_passes test bs k d lt))
    where
      each : (b : TupleView) → All (λ t. test t ≡ test b) (matches p rs b)
      each b = All-map (λ t. test t ≡ test b) (joined b) (nexts p b rs) (All-weaker (λ r. is_eligible p b r ≡ true) (λ r. test (joined b r) ≡ test b) (tells b) (nexts p b rs) (nexts_eligible p b rs))

      one : (b : TupleView) → IsSound b → test b ≡ true → matches p rs b ≡ matches p (filter keep rs) b
      one b b_sound passes = ap (map (joined b)) (nexts_kept keep p b (λ r e. kept b r b_sound passes e) rs)

  module _ (q : List Pr) (m : List Sc) where
    -- a new binding, and the runs from it of at most n events
    abbrev branch : ℕ → List TupleView → TupleView → TupleView → List TupleView
    branch n rs b r = rebound m b r ∷ runs_within n p q m rs (rebound m b r)

    goers_eligible : (b : TupleView) (rs : List TupleView) → All (λ r. is_eligible p b r ≡ true) (goers p q rs b)
    goers_eligible b rs = All-filter (λ r. all_true q r (Some b)) (λ r. is_eligible p b r ≡ true) (nexts p b rs) (nexts_eligible p b rs)

    module _ (stays : (b r : TupleView) → IsSound r → test b ≡ true → is_eligible p b r ≡ true → test (rebound m b r) ≡ true) where
      -- the runs of a binding that passes are those among the kept tuples, by induction on their length
      runs_kept : (rs : List TupleView) → All IsSound rs → (n : ℕ) (b : TupleView) → IsSound b → test b ≡ true → runs_within n p q m rs b ≡ runs_within n p q m (filter keep rs) b
      runs_kept rs all zero b sound passes = refl
      runs_kept rs all (suc n) b sound passes = go (λ c c_sound c_passes. runs_kept rs all n c c_sound c_passes)
        where
          go : ((c : TupleView) → IsSound c → test c ≡ true → runs_within n p q m rs c ≡ runs_within n p q m (filter keep rs) c) → runs_within (suc n) p q m rs b ≡ runs_within (suc n) p q m (filter keep rs) b
          go more =
              flat_map_same (branch n rs b) (branch n (filter keep rs) b) (goers p q rs b)
              (λ k d lt. one (get_or (goers p q rs b) k d) (goers_eligible b rs k d lt) (All-filter (λ r. all_true q r (Some b)) IsSound (nexts p b rs) (nexts_keep IsSound p b rs all) k d lt))
              ∙ ap (λ found. flat_map (branch n (filter keep rs) b) (filter (λ r. all_true q r (Some b)) found)) (nexts_kept keep p b (λ r e. kept b r sound passes e) rs)
            where
              one : (r : TupleView) → is_eligible p b r ≡ true → IsSound r → branch n rs b r ≡ branch n (filter keep rs) b r
              one r e r_sound =
                  let later = eligible_later p b r e in
                  let new_sound : b.from ≤ r.at = omega (arith, later, sound, r_sound) in ap (λ ts. rebound m b r ∷ ts) (more (rebound m b r) new_sound (stays b r r_sound passes e))

      -- so are they with as many events as the list has tuples
      pub runs_same : (rs : List TupleView) → All IsSound rs → (b : TupleView) → IsSound b → test b ≡ true → runs p q m rs b ≡ runs p q m (filter keep rs) b
      runs_same rs all b sound passes =
          runs_kept rs all (length rs) b sound passes ∙ runs_end p q m (filter keep rs) (All-filter keep IsSound rs all) (length rs) b (filter_shorter keep rs)

    module _ (tells : (b r : TupleView) → is_eligible p b r ≡ true → test (rebound m b r) ≡ test b) where
      -- each run passes where its binding does, by induction on its length
      runs_tell : (n : ℕ) (rs : List TupleView) (b : TupleView) → All (λ t. test t ≡ test b) (runs_within n p q m rs b)
      runs_tell zero rs b = All-nil (λ t. test t ≡ test b)
      runs_tell (suc n) rs b = go (λ c. runs_tell n rs c)
        where
          go : ((c : TupleView) → All (λ t. test t ≡ test c) (runs_within n p q m rs c)) → All (λ t. test t ≡ test b) (runs_within (suc n) p q m rs b)
          go more =
              All-flat_map (λ t. test t ≡ test b) (branch n rs b) (goers p q rs b)
              (All-weaker (λ r. is_eligible p b r ≡ true) (λ r. All (λ t. test t ≡ test b) (branch n rs b r)) one (goers p q rs b) (goers_eligible b rs))
            where
              one : (r : TupleView) → is_eligible p b r ≡ true → All (λ t. test t ≡ test b) (branch n rs b r)
              one r e =
                  All-cons (λ t. test t ≡ test b) (rebound m b r) (runs_within n p q m rs (rebound m b r)) (tells b r e)
                  (All-weaker (λ t. test t ≡ test (rebound m b r)) (λ t. test t ≡ test b) (λ t h. h ∙ tells b r e) (runs_within n p q m rs (rebound m b r)) (more (rebound m b r)))

      -- the runs of the bindings that pass are those among the kept tuples
      pub runs_sifted : (bs rs : List TupleView) → All IsSound bs → All IsSound rs → filter test (flat_map (runs p q m rs) bs) ≡ flat_map (runs p q m (filter keep rs)) (filter test bs)
      runs_sifted bs rs sound all =
          filter-given test test (runs p q m rs) bs (λ k d lt. runs_tell (length rs) rs (get_or bs k d))
          ∙ flat_map_same (runs p q m rs) (runs p q m (filter keep rs)) (filter test bs)
          (λ k d lt. runs_same (λ b r r_sound passes e. tells b r e ∙ passes) rs all (get_or (filter test bs) k d) (All-filter test IsSound bs sound k d lt) (filter_passes test bs k d lt))
