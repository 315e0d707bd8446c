-- One epoch at one wait.
use Rattle.std.proofs.Common.{◌≡◌, ◌∙◌, sym, ap, refl, ℕ, ◌<◌, ◌≤◌, ◌==◌, true, ◌&&◌, cond, nat_lt, get_or, List, [], ◌∷◌, ◌++◌, map, append-nil, append_assoc, arith}
use Rattle.std.specs.Prelude.{Option, Some, None}
use Rattle.std.specs.List.{All, filter, flat_map}
use Rattle.std.specs.List.Sorted.{IsPermutation}
use Rattle.std.proofs.lemmas.Grind.{flat_map-append}
use Rattle.std.proofs.lemmas.List.Elements.{filter_agree, All-filter, All-weaker, All-map}
use Rattle.std.proofs.lemmas.List.Sorted.{IsPermutation-trans, IsPermutation-append, IsPermutation-append_right, IsPermutation-append_comm}
use Rattle.event_types.specs.Tuple.{TupleView, IsSound}
use Rattle.instances.specs.declared.instance.Instance.{Instance}
use Rattle.semantics.specs.Scalars.{Sc, Pr}
use Rattle.semantics.specs.Nexts.{is_eligible, nexts, earliest}
use Rattle.semantics.specs.Runs.{runs}
use Rattle.semantics.specs.Denotation.{joined, matches}
use Rattle.semantics.proofs.ListLemmas.{filter-map, filter_swap}
use Rattle.semantics.proofs.ReportLemmas.{filter_all, flat_map_same}
use Rattle.scalar_expr.proofs.Bags.{permuted_from, permuted_to, flat_map_permuted}
use Rattle.scalar_expr.proofs.NextsLemmas.{nexts_keep, nexts_start_later}
use Rattle.automaton.specs.Waiting.{is_empty, waits, waiting_in}
use Rattle.automaton.specs.Waits.{chosen}
use Rattle.automaton.specs.declared.wait.Turn.{Turn}
use Rattle.epoch_laws.specs.Epochs.{again, is_unmet, stepped, taken, took}
use Rattle.epoch_laws.specs.Instances.{bindings_of}
use Rattle.epoch_laws.specs.Times.{before, during, IsPast}
use Rattle.epoch_laws.proofs.Bags.{permuted_is, flat_map_parts, flat_map_alike}
use Rattle.epoch_laws.proofs.Bindings.{stepped_bindings, took_bindings}
use Rattle.epoch_laws.proofs.Cuts.{not_less, empty_is, before_nexts, none_early, during_nexts, waits_cut, waits_now}
use Rattle.epoch_laws.proofs.Folds.{before_runs, cut_permuted, during_at, early_none, fold_gives, fold_keeps, late_runs, runs_past, stays, turned}
use Rattle.epoch_laws.proofs.Lists.{All-flat_map, filter-filter, filter-flat_map, flat_map-filter, flat_map-flat_map, flat_map_each}
use Rattle.epoch_laws.proofs.Purges.{rows_stepped}

-- all bindings
-- of those that entered, only those before the last time give what is detected at it
module _ (time : ℕ) (p : List Pr) (rs : List TupleView) (all : All (IsPast time) rs) where
  next_gives : (ls : List TupleView) → All (λ l. l.at ≤ time) ls → during time (flat_map (matches p rs) ls) ≡ flat_map (taken p None (during time rs)) (filter (waits p (before time rs)) (before time ls))
  next_gives ls few =
      filter-flat_map (λ r. r.at == time) (matches p rs) ls
      ∙ flat_map-filter (λ l. nat_lt l.at time) (λ l. l.at ≤ time) (λ l. during time (matches p rs l)) (λ l. during time (matches p rs l)) (λ l h e. refl) (λ l h e. one_late l (not_less time l.at e)) ls few
      ∙ flat_map-filter (waits p (before time rs)) (λ _. Unit {0}) (λ l. during time (matches p rs l)) (taken p None (during time rs))
      (λ l h e. one l ∙ ap (λ t. map (joined l) (cond t (filter (is_eligible p l) (during time rs)) [])) e)
      (λ l h e. one l ∙ ap (λ t. map (joined l) (cond t (filter (is_eligible p l) (during time rs)) [])) e)
      (before time ls) (λ _ _ _. tt)
    where
      one : (l : TupleView) → during time (matches p rs l) ≡ map (joined l) (cond (waits p (before time rs) l) (filter (is_eligible p l) (during time rs)) [])
      one l = filter-map (λ r. r.at == time) (joined l) (nexts p l rs) ∙ ap (map (joined l)) (during_nexts time p l rs all)

      one_late : (l : TupleView) → time ≤ l.at → during time (matches p rs l) ≡ []
      one_late l late = ap (λ ns. during time (map (joined l) ns)) (empty_is (nexts p l rs) (waits_now time p l late rs all))

  turn_gives : (q : List Pr) (m : List Sc) (ls : List TupleView) → All (λ l. l.at ≤ time) ls
      → during time (flat_map (runs p q m rs) ls) ≡ flat_map (turned time p q m rs all) (filter (waits p (before time rs)) (flat_map (λ b. b ∷ runs p q m (before time rs) b) (before time ls)))
  turn_gives q m ls few =
      filter-flat_map (λ r. r.at == time) (runs p q m rs) ls
      ∙ flat_map-filter (λ l. nat_lt l.at time) (λ l. l.at ≤ time) (λ l. during time (runs p q m rs l)) (λ l. flat_map (turned time p q m rs all) (stays time p q m rs all l))
      (λ l h e. fold_gives time p q m rs all l) (λ l h e. ap (during time) (late_runs time p q m rs all l (not_less time l.at e))) ls few
      ∙ sym (flat_map-flat_map (turned time p q m rs all) (stays time p q m rs all) (before time ls))
      ∙ ap (flat_map (turned time p q m rs all)) (sym (filter-flat_map (waits p (before time rs)) (λ b. b ∷ runs p q m (before time rs) b) (before time ls)))

-- what leaves a wait at the last time is what the bindings give that waited before it
pub rows_give : (time : ℕ) (p : List Pr) (turn : Option Turn) (rs ls : List TupleView) → All (IsPast time) rs → All (λ l. l.at ≤ time) ls
    → during time (chosen p turn rs ls) ≡ flat_map (taken p turn (during time rs)) (waiting_in p turn (before time rs) (before time ls))
rows_give time p None rs ls all few = next_gives time p rs all ls few
rows_give time p (Some t) rs ls all few = turn_gives time p rs all t.on t.set.parts ls few

-- what waits after the last time
module _ (time : ℕ) (p : List Pr) (rs : List TupleView) (all : All (IsPast time) rs) where
  abbrev stands : List TupleView → List TupleView
  stands bs = filter (λ b. is_empty (filter (is_eligible p b) (during time rs))) bs

  -- the bindings of the last time wait
  late_wait : (ls : List TupleView) → All (λ b. waits p rs b ≡ true) (during time ls)
  late_wait ls = All-weaker (λ b. b.at ≡ time) (λ b. waits p rs b ≡ true) (λ b e. waits_now time p b (omega arith) rs all) (during time ls) (during_at time ls)

  next_keeps : (ls : List TupleView) → All (λ l. l.at ≤ time) ls → IsPermutation (filter (waits p rs) ls) (stands (filter (waits p (before time rs)) (before time ls)) ++ (during time ls ++ []))
  next_keeps ls few =
      permuted_to (cut_permuted time (filter (waits p rs) ls) (All-filter (waits p rs) (λ l. l.at ≤ time) ls few))
      (λ i. early i ++ late i)
    where
      early : before time (filter (waits p rs) ls) ≡ stands (filter (waits p (before time rs)) (before time ls))
      early =
          filter_swap (λ l. nat_lt l.at time) (waits p rs) ls
          ∙ filter_agree (waits p rs) (λ b. waits p (before time rs) b && is_empty (filter (is_eligible p b) (during time rs))) (λ b. waits_cut time p b rs all) (before time ls)
          ∙ sym (filter-filter (λ b. is_empty (filter (is_eligible p b) (during time rs))) (waits p (before time rs)) (before time ls))

      late : during time (filter (waits p rs) ls) ≡ during time ls ++ []
      late = filter_swap (λ l. l.at == time) (waits p rs) ls ∙ filter_all (waits p rs) (during time ls) (late_wait ls) ∙ sym (append-nil (during time ls))

  turn_keeps : (q : List Pr) (m : List Sc) (ls : List TupleView) → All (λ l. l.at ≤ time) ls → (entered : List TupleView)
      → entered ≡ filter (waits p (before time rs)) (flat_map (λ b. b ∷ runs p q m (before time rs) b) (before time ls))
      → IsPermutation (filter (waits p rs) (flat_map (λ b. b ∷ runs p q m rs b) ls)) (stands entered ++ (during time ls ++ flat_map (turned time p q m rs all) entered))
  turn_keeps q m ls few entered is =
      permuted_from (filter-flat_map (waits p rs) (λ b. b ∷ runs p q m rs b) ls)
      (IsPermutation-trans _ _ _ (flat_map_permuted each ls (before time ls ++ during time ls) (cut_permuted time ls few))
      (permuted_from (flat_map-append each (before time ls) (during time ls))
      (IsPermutation-trans _ _ _ (IsPermutation-append _ _ _ _ early (permuted_is late))
      (permuted_from (append_assoc (stands entered) (flat_map (turned time p q m rs all) entered) (during time ls))
      (IsPermutation-append_right (stands entered) _ _ (IsPermutation-append_comm (flat_map (turned time p q m rs all) entered) (during time ls)))))))
    where
      each : TupleView → List TupleView
      each b = filter (waits p rs) (b ∷ runs p q m rs b)

      all_in : flat_map (stays time p q m rs all) (before time ls) ≡ entered
      all_in = sym (is ∙ filter-flat_map (waits p (before time rs)) (λ b. b ∷ runs p q m (before time rs) b) (before time ls))

      early : IsPermutation (flat_map each (before time ls)) (stands entered ++ flat_map (turned time p q m rs all) entered)
      early =
          IsPermutation-trans _ _ _
          (flat_map_alike each (λ b. stands (stays time p q m rs all b) ++ flat_map (turned time p q m rs all) (stays time p q m rs all b)) (before time ls) (λ i d _. fold_keeps time p q m rs all _))
          (permuted_to (flat_map_parts (λ b. stands (stays time p q m rs all b)) (λ b. flat_map (turned time p q m rs all) (stays time p q m rs all b)) (before time ls))
          (sym (λ i. filter-flat_map (λ b. is_empty (filter (is_eligible p b) (during time rs))) (stays time p q m rs all) (before time ls) i ++ flat_map-flat_map (turned time p q m rs all) (stays time p q m rs all) (before time ls) i)
          ∙ ap (λ ts. stands ts ++ flat_map (turned time p q m rs all) ts) all_in))

      alone : (b : TupleView) → b.at ≡ time → each b ≡ b ∷ []
      alone b e =
          ap (λ ts. filter (waits p rs) (b ∷ ts)) (late_runs time p q m rs all b (omega arith)) ∙ ap (λ t. cond t (b ∷ []) []) (waits_now time p b (omega arith) rs all)

      late : flat_map each (during time ls) ≡ during time ls
      late = flat_map_same each (λ b. b ∷ []) (during time ls) (All-weaker (λ b. b.at ≡ time) (λ b. each b ≡ b ∷ []) alone (during time ls) (during_at time ls)) ∙ flat_map_each (during time ls)

-- the bindings that wait after the last time
pub rows_keep : (time : ℕ) (p : List Pr) (turn : Option Turn) (rs ls : List TupleView) → All (IsPast time) rs → All (λ l. l.at ≤ time) ls
    → IsPermutation (waiting_in p turn rs ls)
    (filter (is_unmet p (during time rs)) (waiting_in p turn (before time rs) (before time ls)) ++ (during time ls ++ again turn (flat_map (taken p turn (during time rs)) (waiting_in p turn (before time rs) (before time ls)))))
rows_keep time p None rs ls all few = next_keeps time p rs all ls few
rows_keep time p (Some t) rs ls all few = turn_keeps time p rs all t.on t.set.parts ls few (waiting_in p (Some t) (before time rs) (before time ls)) refl

-- what is past is at most at the time
pub few_of : (time : ℕ) (ls : List TupleView) → All (IsPast time) ls → All (λ l. l.at ≤ time) ls
few_of time ls all = All-weaker (IsPast time) (λ l. l.at ≤ time) (λ l h. h.1) ls all

-- a wait gives in an epoch what is chosen then
pub wait_gives : (time : ℕ) (p : List Pr) (turn : Option Turn) (rs ls : List TupleView) → All (IsPast time) rs → All (IsPast time) ls
    → (store : List Instance) → bindings_of store ≡ waiting_in p turn (before time rs) (before time ls) → during time (chosen p turn rs ls) ≡ bindings_of (took p turn (during time rs) store)
wait_gives time p turn rs ls all past store is =
    rows_give time p turn rs ls all (few_of time ls past) ∙ ap (flat_map (taken p turn (during time rs))) (sym is) ∙ sym (took_bindings p turn (during time rs) store)

-- and keeps the bindings for which nothing was eligible
pub wait_keeps : (time : ℕ) (p : List Pr) (turn : Option Turn) (rs ls : List TupleView) → All (IsPast time) rs → All (IsPast time) ls
    → (entered store : List Instance) → bindings_of entered ≡ during time ls → bindings_of store ≡ waiting_in p turn (before time rs) (before time ls)
    → IsPermutation (waiting_in p turn rs ls) (bindings_of (stepped p turn (during time rs) entered store))
wait_keeps time p turn rs ls all past entered store enters is =
    permuted_to (rows_keep time p turn rs ls all (few_of time ls past))
    (sym (stepped_bindings p turn (during time rs) entered store ∙ (λ i. rows_stepped p turn (during time rs) (enters i) (is i))))

-- what leaves a wait before the last time
module _ (time : ℕ) (p : List Pr) (rs : List TupleView) (sound : All IsSound rs) where
  matches_before : (l : TupleView) → before time (matches p rs l) ≡ matches p (before time rs) l
  matches_before l = filter-map (λ r. nat_lt r.at time) (joined l) (nexts p l rs) ∙ ap (map (joined l)) (before_nexts time p l rs)

  matches_none : (l : TupleView) → time ≤ l.at → matches p (before time rs) l ≡ []
  matches_none l late = ap (λ found. map (joined l) (earliest found)) (none_early time p l late rs sound)

  -- what is chosen before a time is chosen from what is before it
  pub chosen_before : (turn : Option Turn) (ls : List TupleView) → before time (chosen p turn rs ls) ≡ chosen p turn (before time rs) (before time ls)
  chosen_before None ls =
      filter-flat_map (λ r. nat_lt r.at time) (matches p rs) ls
      ∙ flat_map-filter (λ l. nat_lt l.at time) (λ _. Unit {0}) (λ l. before time (matches p rs l)) (matches p (before time rs)) (λ l _ e. matches_before l) (λ l _ e. matches_before l ∙ matches_none l (not_less time l.at e)) ls (λ _ _ _. tt)
  chosen_before (Some t) ls =
      filter-flat_map (λ r. nat_lt r.at time) (runs p t.on t.set.parts rs) ls
      ∙ flat_map-filter (λ l. nat_lt l.at time) (λ _. Unit {0}) (λ l. before time (runs p t.on t.set.parts rs l)) (runs p t.on t.set.parts (before time rs))
      (λ l _ e. before_runs time p t.on t.set.parts rs sound l) (λ l _ e. before_runs time p t.on t.set.parts rs sound l ∙ early_none time p t.on t.set.parts rs sound l (not_less time l.at e)) ls (λ _ _ _. tt)

-- what leaves a wait is of the past
module _ (time : ℕ) (p : List Pr) (rs : List TupleView) (past : All (IsPast time) rs) where
  joined_past : (l r : TupleView) → l.from ≤ l.at → l.at < r.from → IsPast time r → l.from ≤ r.at
  joined_past l r sound after h = let low = h.0 in omega (arith, sound, low)

  matches_past : (l : TupleView) → IsPast time l → All (IsPast time) (matches p rs l)
  matches_past l h =
      All-map (IsPast time) (joined l) (nexts p l rs)
      (λ i d lt. one (get_or (nexts p l rs) i d) (nexts_start_later p l rs i d lt) (nexts_keep (IsPast time) p l rs past i d lt))
    where
      one : (r : TupleView) → l.at < r.from → IsPast time r → IsPast time (joined l r)
      one r after k = (joined_past l r h.0 after k, k.1)

  -- what is chosen is past
  pub chosen_past : (turn : Option Turn) (ls : List TupleView) → All (IsPast time) ls → All (IsPast time) (chosen p turn rs ls)
  chosen_past None ls all = All-flat_map (IsPast time) (matches p rs) ls (All-weaker (IsPast time) (λ l. All (IsPast time) (matches p rs l)) matches_past ls all)
  chosen_past (Some t) ls all =
      All-flat_map (IsPast time) (runs p t.on t.set.parts rs) ls
      (All-weaker (IsPast time) (λ l. All (IsPast time) (runs p t.on t.set.parts rs l)) (λ l h. runs_past time p t.on t.set.parts rs past l h.0) ls all)
