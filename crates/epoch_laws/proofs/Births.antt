-- What is chosen for a binding that is detected after a birth, over tuples that are cut there.
use Rattle.std.proofs.Common.{◌≡◌, ◌∙◌, sym, ap, refl, ℕ, ◌<◌, ◌≤◌, Bool, true, false, ◌&&◌, nat_lt, get_or, List, [], ◌∷◌, ◌++◌, map, subst, arith}
use Rattle.std.specs.Prelude.{Option, Some, None}
use Rattle.std.specs.List.{All, filter, flat_map}
use Rattle.std.proofs.lemmas.Bool.Decides.{nat_tests}
use Rattle.std.proofs.lemmas.List.Elements.{All-nil, All-cons, All-append, All-filter, All-map, All-weaker}
use Rattle.event_types.specs.Tuple.{TupleView, IsSound}
use Rattle.semantics.specs.Scalars.{Sc, Pr}
use Rattle.semantics.specs.Truth.{all_true}
use Rattle.semantics.specs.Nexts.{is_eligible, earliest, nexts}
use Rattle.semantics.specs.Runs.{goers, rebound, runs}
use Rattle.semantics.specs.Denotation.{joined, matches}
use Rattle.semantics.proofs.ReportLemmas.{flat_map_same}
use Rattle.scalar_expr.proofs.NextsLemmas.{nexts_keep, nexts_start_later}
use Rattle.automaton.specs.Waits.{chosen}
use Rattle.automaton.specs.declared.wait.Turn.{Turn}
use Rattle.semantics.specs.Births.{after, is_after}
use Rattle.epoch_laws.proofs.Folds.{goers_start_later, runs_induct, runs_unfold}
use Rattle.epoch_laws.proofs.Lists.{All-flat_map, and-false, filter-filter, filter_alike}

-- a time that isn't before one after the birth is after it
pub after_on : (birth : Option ℕ) (time later : ℕ) → time ≤ later → is_after birth time ≡ true → is_after birth later ≡ true
after_on None time later le e = refl
after_on (Some b) time later le e = grind (arith, nat_tests)

-- what starts after a binding's detection is detected after it too
pub detected_later : (binding tuple : TupleView) → binding.at < tuple.from → IsSound tuple → binding.at < tuple.at
detected_later binding tuple starts sound = omega (arith, starts, sound)

module _ (p : List Pr) (rs : List TupleView) (sound : All IsSound rs) where
  sound_goers : (q : List Pr) (b : TupleView) → All IsSound (goers p q rs b)
  sound_goers q b = All-filter (λ r. all_true q r (Some b)) IsSound (nexts p b rs) (nexts_keep IsSound p b rs sound)

  -- a binding's nexts are detected after it
  nexts_later : (b : TupleView) → All (λ r. b.at < r.at) (nexts p b rs)
  nexts_later b i d lt = detected_later b (get_or (nexts p b rs) i d) (nexts_start_later p b rs i d lt) (nexts_keep IsSound p b rs sound i d lt)

  -- and so is what it goes on with in a FOLD
  goers_later : (q : List Pr) (b : TupleView) → All (λ r. b.at < r.at) (goers p q rs b)
  goers_later q b i d lt = detected_later b (get_or (goers p q rs b) i d) (goers_start_later p q rs b i d lt) (sound_goers q b i d lt)

  -- the runs from it are detected after it
  runs_later : (q : List Pr) (m : List Sc) (b : TupleView) → All (λ t. b.at < t.at) (runs p q m rs b)
  runs_later q m = runs_induct p q m rs sound (λ b. All (λ t. b.at < t.at) (runs p q m rs b)) go
    where
      go : (b : TupleView) → All (λ r. All (λ t. r.at < t.at) (runs p q m rs (rebound m b r))) (goers p q rs b) → All (λ t. b.at < t.at) (runs p q m rs b)
      go b more =
          subst (λ ts. All (λ t. b.at < t.at) ts) (sym (runs_unfold p q m rs sound b))
          (All-flat_map (λ t. b.at < t.at) (λ r. rebound m b r ∷ runs p q m rs (rebound m b r)) (goers p q rs b)
          (λ i d lt. one (get_or (goers p q rs b) i d) (goers_later q b i d lt) (more i d lt)))
        where
          one : (r : TupleView) → b.at < r.at → All (λ t. r.at < t.at) (runs p q m rs (rebound m b r)) → All (λ t. b.at < t.at) (rebound m b r ∷ runs p q m rs (rebound m b r))
          one r later h =
              All-cons (λ t. b.at < t.at) (rebound m b r) (runs p q m rs (rebound m b r)) later
              (All-weaker (λ t. r.at < t.at) (λ t. b.at < t.at) (λ t k. omega (arith, later, k)) (runs p q m rs (rebound m b r)) h)

  -- what is chosen for a binding is detected after it
  pub chosen_later : (turn : Option Turn) (b : TupleView) → All (λ t. b.at < t.at) (chosen p turn rs (b ∷ []))
  chosen_later None b =
      All-append (λ t. b.at < t.at) (matches p rs b) [] (All-map (λ t. b.at < t.at) (joined b) (nexts p b rs) (nexts_later b)) (All-nil (λ t. b.at < t.at))
  chosen_later (Some t) b = All-append (λ t. b.at < t.at) (runs p t.on t.set.parts rs b) [] (runs_later t.on t.set.parts b) (All-nil (λ t. b.at < t.at))

  module _ (birth : Option ℕ) where
    -- what is eligible for a binding after the birth is detected after the birth
    eligible_after : (b r : TupleView) → is_after birth b.at ≡ true → IsSound r → is_eligible p b r ≡ (is_after birth r.at && is_eligible p b r)
    eligible_after b r late whole = go (nat_lt b.at r.from) refl
      where
        go : (t : Bool) → nat_lt b.at r.from ≡ t → is_eligible p b r ≡ (is_after birth r.at && is_eligible p b r)
        go true e = let later : b.at ≤ r.at = grind (arith, nat_tests) in sym (ap (λ c. c && is_eligible p b r) (after_on birth b.at r.at later late))
        go false e =
            let none : is_eligible p b r ≡ false = ap (λ t. t && all_true p r (Some b)) e in
            none ∙ sym (ap (λ c. is_after birth r.at && c) none ∙ and-false (is_after birth r.at))

    -- so its nexts are those among what is detected after the birth
    nexts_after : (b : TupleView) → is_after birth b.at ≡ true → nexts p b rs ≡ nexts p b (after birth rs)
    nexts_after b late =
        ap earliest
        (filter_alike (is_eligible p b) (λ r. is_after birth r.at && is_eligible p b r) rs
        (All-weaker IsSound (λ r. is_eligible p b r ≡ (is_after birth r.at && is_eligible p b r)) (λ r whole. eligible_after b r late whole) rs sound)
        ∙ sym (filter-filter (is_eligible p b) (λ r. is_after birth r.at) rs))

    sound_after : All IsSound (after birth rs)
    sound_after = All-filter (λ r. is_after birth r.at) IsSound rs sound

    -- and so are the runs from it
    runs_after : (q : List Pr) (m : List Sc) (b : TupleView) → is_after birth b.at ≡ true → runs p q m rs b ≡ runs p q m (after birth rs) b
    runs_after q m = runs_induct p q m rs sound (λ b. is_after birth b.at ≡ true → runs p q m rs b ≡ runs p q m (after birth rs) b) go
      where
        go : (b : TupleView) → All (λ r. is_after birth r.at ≡ true → runs p q m rs (rebound m b r) ≡ runs p q m (after birth rs) (rebound m b r)) (goers p q rs b)
            → is_after birth b.at ≡ true → runs p q m rs b ≡ runs p q m (after birth rs) b
        go b more late =
            runs_unfold p q m rs sound b
            ∙ flat_map_same (λ r. rebound m b r ∷ runs p q m rs (rebound m b r)) (λ r. rebound m b r ∷ runs p q m (after birth rs) (rebound m b r)) (goers p q rs b)
            (λ i d lt. one (get_or (goers p q rs b) i d) (goers_later q b i d lt) (more i d lt))
            ∙ ap (λ ns. flat_map (λ r. rebound m b r ∷ runs p q m (after birth rs) (rebound m b r)) (filter (λ r. all_true q r (Some b)) ns)) (nexts_after b late)
            ∙ sym (runs_unfold p q m (after birth rs) sound_after b)
          where
            one : (r : TupleView) → b.at < r.at → (is_after birth r.at ≡ true → runs p q m rs (rebound m b r) ≡ runs p q m (after birth rs) (rebound m b r))
                → rebound m b r ∷ runs p q m rs (rebound m b r) ≡ rebound m b r ∷ runs p q m (after birth rs) (rebound m b r)
            one r later same = let le : b.at ≤ r.at = omega (arith, later) in ap (λ ts. rebound m b r ∷ ts) (same (after_on birth b.at r.at le late))

    -- what is chosen for it is chosen from what is detected after the birth
    pub chosen_after : (turn : Option Turn) (b : TupleView) → is_after birth b.at ≡ true → chosen p turn rs (b ∷ []) ≡ chosen p turn (after birth rs) (b ∷ [])
    chosen_after None b late = ap (λ ns. map (joined b) ns ++ []) (nexts_after b late)
    chosen_after (Some t) b late = ap (λ ts. ts ++ []) (runs_after t.on t.set.parts b late)
