-- The ends at a state and behind it.
use Rattle.std.proofs.Common.{◌≡◌, ◌∙◌, sym, ap, refl, subst, ℕ, zero, suc, ◌+◌, ◌<◌, ◌≤◌, ◌==◌, Bool, true, false, ◌||◌, length, List, [], ◌∷◌, ◌++◌, arith}
use Rattle.std.specs.Prelude.{Contains, Option, Some, None, IsTrue}
use Rattle.std.specs.Option.{option_and_then, unwrap_or}
use Rattle.std.specs.List.{All, IsDistinct, flat_map, list_any}
use Rattle.std.proofs.lemmas.List.Elements.{All-nil, All-cons, All-head, All-tail, All-append, All-contains, All-contains_itself, All-map, All-weaker, recursion_from_All}
use Rattle.std.proofs.lemmas.Map.Keys.{IsDistinct-cons, IsDistinct-from_apart}
use Rattle.std.proofs.lemmas.Map.Steps.{length-le_from_distinct_below}
use Rattle.event_types.proofs.NumberLemmas.{is_other, same_number}
use Rattle.automaton.specs.Networks.{IsAt, IsNetwork}
use Rattle.automaton.specs.Prefixes.{Prefix, Root, After}
use Rattle.automaton.specs.States.{Net, before_at, before_by, edges_at, ends_at, entrance_at, is_used}
use Rattle.automaton.specs.declared.line.Hop.{Hop}
use Rattle.automaton.specs.declared.network.End.{End}
use Rattle.automaton.specs.declared.network.Entrance.{Entrance}
use Rattle.automaton.specs.declared.network.Entrance.TheVariants as entrance
use Rattle.automaton.proofs.SlotLemmas.{at_one, at_used, used_below}
use Rattle.epoch_laws.specs.Births.{IsLeastBirth, IsNoLater}
use Rattle.epoch_laws.proofs.Lists.{All-flat_map, map_all}
use Rattle.epoch_laws.proofs.Networks.{flat_all}
use Rattle.epoch_draft.specs.Behind.{IsBehind, IsBirthBehind}
use Rattle.epoch_draft.specs.BirthLists.{births_of, births_within, least_with}
use Rattle.epoch_draft.proofs.EdgeLemmas.{before_edge, edge_before}
use Rattle.epoch_draft.proofs.LeastLemmas.{least_all, least_first, least_is, least_of, least_one}

-- a walk on may begin one state before
pub behind_first : (net : Net) (state next hops last : ℕ) → before_at net next ≡ Some state → IsBehind net next hops last → IsBehind net state (suc hops) last
behind_first net state next zero last is behind = (state, ap (before_at net) behind ∙ is, refl)
behind_first net state next (suc hops) last is behind = (behind.0, behind.1, behind_first net state next hops behind.0 is behind.2)

-- or its first step be taken
behind_rest : (net : Net) (state hops last : ℕ) → IsBehind net state (suc hops) last → (next : ℕ) × (before_at net next ≡ Some state) × IsBehind net next hops last
behind_rest net state zero last behind = (last, behind.1 ∙ ap Some behind.2, refl)
behind_rest net state (suc hops) last behind =
    let rest = behind_rest net state hops behind.0 behind.2 in (rest.0, rest.1, (behind.0, behind.1, rest.2))

-- each birth that is looked at is that of an end behind the state
pub all_behind : (net : Net) → IsNetwork net → (hops state : ℕ) → All (IsBirthBehind net state) (births_within net hops state)
all_behind net network hops state = go hops state
  where
    here : (state : ℕ) → All (IsBirthBehind net state) (births_of (ends_at net state))
    here state = All-map (IsBirthBehind net state) (λ (e : End). e.birth) (ends_at net state) (All-weaker (Contains (ends_at net state)) (λ (e : End). IsBirthBehind net state e.birth) (λ e c. (0, state, e, refl, c, refl)) (ends_at net state) (All-contains_itself (ends_at net state)))

    go : (hops state : ℕ) → All (IsBirthBehind net state) (births_within net hops state)
    go zero state = here state
    go (suc hops) state =
        All-append (IsBirthBehind net state) (births_of (ends_at net state)) (flat_map (births_within net hops) (edges_at net state)) (here state)
        (All-flat_map (IsBirthBehind net state) (births_within net hops) (edges_at net state)
        (All-weaker (Contains (edges_at net state)) (λ next. All (IsBirthBehind net state) (births_within net hops next))
        (λ next c. All-weaker (IsBirthBehind net next) (IsBirthBehind net state) (λ b h. (suc h.0, h.1, h.2, behind_first net state next h.0 h.1 (edge_before net network state next c) h.3, h.4, h.5)) (births_within net hops next) (go hops next))
        (edges_at net state) (All-contains_itself (edges_at net state))))

-- and each such end is met, where enough edges are followed
module _ (net : Net) (network : IsNetwork net) (P : Option ℕ → Type 0) where
  front : (bs cs : List (Option ℕ)) → All P (bs ++ cs) → All P bs
  front [] cs all = All-nil P
  front (b ∷ bs) cs all = All-cons P b bs (All-head P b (bs ++ cs) all) (front bs cs (All-tail P b (bs ++ cs) all))

  back : (bs cs : List (Option ℕ)) → All P (bs ++ cs) → All P cs
  back [] cs all = all
  back (b ∷ bs) cs all = back bs cs (All-tail P b (bs ++ cs) all)

  at_end : (state : ℕ) (e : End) → Contains (ends_at net state) e → All P (births_of (ends_at net state)) → P e.birth
  at_end state e c all = All-contains (λ (f : End). P f.birth) (ends_at net state) e (map_all P (λ (f : End). f.birth) (ends_at net state) all) c

  pub met : (most state hops last : ℕ) (e : End) → hops ≤ most → IsBehind net state hops last → Contains (ends_at net last) e → All P (births_within net most state) → P e.birth
  met zero state zero last e le behind c all = at_end state e (subst (λ (n : ℕ). Contains (ends_at net n) e) behind c) all
  met zero state (suc hops) last e le behind c all = absurd (omega (arith, le))
  met (suc most) state zero last e le behind c all =
      at_end state e (subst (λ (n : ℕ). Contains (ends_at net n) e) behind c) (front (births_of (ends_at net state)) (flat_map (births_within net most) (edges_at net state)) all)
  met (suc most) state (suc hops) last e le behind c all =
      let rest = behind_rest net state hops last behind in
      met most rest.0 hops last e (omega (arith, le)) rest.2 c
      (All-contains (λ next. All P (births_within net most next)) (edges_at net state) rest.0
      (flat_all P (births_within net most) (edges_at net state) (back (births_of (ends_at net state)) (flat_map (births_within net most) (edges_at net state)) all))
      (before_edge net network state rest.0 rest.1))

-- how many hops a prefix has
abbrev depth : Prefix → ℕ
depth (Root stream) = 0
depth (After p h) = suc (depth p)

-- the states on the way to a state
abbrev way : (net : Net) (n : ℕ) (p : Prefix) → IsAt net n p → List ℕ
way net n (Root s) at = n ∷ []
way net n (After p h) at = n ∷ way net at.0 p at.2

way_long : (net : Net) (n : ℕ) (p : Prefix) (at : IsAt net n p) → length (way net n p at) ≡ suc (depth p)
way_long net n (Root s) at = refl
way_long net n (After p h) at = ap suc (way_long net at.0 p at.2)

-- each stands for a prefix that is no longer
way_places : (net : Net) (n : ℕ) (p : Prefix) (at : IsAt net n p) → All (λ m. (q : Prefix) × IsAt net m q × (depth q ≤ depth p)) (way net n p at)
way_places net n (Root s) at = All-cons (λ m. (q : Prefix) × IsAt net m q × (depth q ≤ 0)) n [] (Root s, at, omega arith) (All-nil (λ m. (q : Prefix) × IsAt net m q × (depth q ≤ 0)))
way_places net n (After p h) at =
    All-cons (λ m. (q : Prefix) × IsAt net m q × (depth q ≤ suc (depth p))) n (way net at.0 p at.2) (After p h, at, omega arith)
    (All-weaker (λ m. (q : Prefix) × IsAt net m q × (depth q ≤ depth p)) (λ m. (q : Prefix) × IsAt net m q × (depth q ≤ suc (depth p))) (λ m k. (k.0, k.1, (let le = k.2 in omega (arith, le)))) (way net at.0 p at.2) (way_places net at.0 p at.2))

-- no state stands there twice
way_apart : (net : Net) (n : ℕ) (p : Prefix) (at : IsAt net n p) → IsDistinct ◌==◌ (way net n p at)
way_apart net n (Root s) at = IsDistinct-cons ◌==◌ n [] (recursion_from_All (λ m. (n == m) ≡ false) [] (All-nil (λ m. (n == m) ≡ false))) (IsDistinct-from_apart ◌==◌ [] (λ i j d before within. absurd (omega (arith, within))))
way_apart net n (After p h) at =
    IsDistinct-cons ◌==◌ n (way net at.0 p at.2)
    (recursion_from_All (λ m. (n == m) ≡ false) (way net at.0 p at.2) (All-weaker (λ m. (q : Prefix) × IsAt net m q × (depth q ≤ depth p)) (λ m. (n == m) ≡ false) (λ m k. is_other n m (λ same. other m k same)) (way net at.0 p at.2) (way_places net at.0 p at.2)))
    (way_apart net at.0 p at.2)
  where
    other : (m : ℕ) → (q : Prefix) × IsAt net m q × (depth q ≤ depth p) → n ≡ m → ⊥
    other m k same =
        let one : After p h ≡ k.0 = at_one net n (After p h) k.0 at (subst (λ (j : ℕ). IsAt net j k.0) (sym same) k.1) in
        let deep = ap depth one in
        let le = k.2 in absurd (omega (arith, deep, le))

-- each has a number of the network
way_below : (net : Net) (most q : ℕ) (ns : List ℕ) → All (λ m. (r : Prefix) × IsAt net m r × (depth r ≤ most)) ns → list_any (λ m. q == m) ns ≡ true → q < length net
way_below net most q [] all found = absurd (let no : false ≡ true = found in cc)
way_below net most q (m ∷ ns) all found = go (q == m) refl found (way_below net most q ns (All-tail (λ m. (r : Prefix) × IsAt net m r × (depth r ≤ most)) m ns all))
  where
    first : (r : Prefix) × IsAt net m r × (depth r ≤ most)
    first = All-head (λ m. (r : Prefix) × IsAt net m r × (depth r ≤ most)) m ns all

    go : (b : Bool) → (q == m) ≡ b → (b || list_any (λ k. q == k) ns) ≡ true → (list_any (λ k. q == k) ns ≡ true → q < length net) → q < length net
    go true e h rest = subst (λ (k : ℕ). k < length net) (sym (same_number q m e)) (used_below net m (at_used net m first.0 first.1))
    go false e h rest = rest h

-- so a prefix has fewer hops than the network has numbers
deep_below : (net : Net) (n : ℕ) (p : Prefix) → IsAt net n p → depth p < length net
deep_below net n p at =
    let long = way_long net n p at in
    let few = length-le_from_distinct_below (way net n p at) (length net) (way_apart net n p at) (λ q found. way_below net (depth p) q (way net n p at) (way_places net n p at) found) in omega (arith, long, few)

-- what is entered from a state is entered through a hop
pub entered_by : (o : Option Entrance) (n : ℕ) → option_and_then before_by o ≡ Some n → (h : Hop) × (o ≡ Some (entrance.Waiting n h))
entered_by None n e = absurd (let no : None ≡ Some n = e in cc)
entered_by (Some (entrance.Root s)) n e = absurd (let no : None ≡ Some n = e in cc)
entered_by (Some (entrance.Waiting m h)) n e = let same : m ≡ n = cc in (h, ap (λ k. Some (entrance.Waiting k h)) same)

-- a state that stands so many hops behind is as much deeper
behind_deep : (net : Net) (network : IsNetwork net) (state hops last : ℕ) (p : Prefix) → IsAt net state p → IsBehind net state hops last → (q : Prefix) × IsAt net last q × (depth q ≡ depth p + hops)
behind_deep net network state zero last p at behind = (p, subst (λ (n : ℕ). IsAt net n p) (sym behind) at, omega arith)
behind_deep net network state (suc hops) last p at behind =
    let before = behind_deep net network state hops behind.0 p at behind.2 in
    let entered = entered_by (entrance_at net last) behind.0 behind.1 in
    (After before.0 entered.0, (behind.0, entered.1, before.1), (let deep = before.2 in omega (arith, deep)))

-- the least of the births that are met is that of the ends that use the state
pub least_behind : (net : Net) → IsNetwork net → (state : ℕ) → IsTrue (is_used net state) → IsLeastBirth (IsBirthBehind net state) (unwrap_or (least_with None (births_within net (length net) state)) None)
least_behind net network state used = go (births_within net (length net) state) (all_behind net network (length net) state) (λ P all b h. reach P all b h)
  where
    place : (p : Prefix) × IsAt net state p
    place = network.places state used

    reach : (P : Option ℕ → Type 0) → All P (births_within net (length net) state) → (b : Option ℕ) → IsBirthBehind net state b → P b
    reach P all b h =
        let deep = behind_deep net network state h.0 h.1 place.0 place.1 h.3 in
        let below = deep_below net h.1 deep.0 deep.1 in
        let sum = deep.2 in
        subst P h.5 (met net network P (length net) state h.0 h.1 h.2 (omega (arith, below, sum)) h.3 h.4 all)

    go : (bs : List (Option ℕ)) → All (IsBirthBehind net state) bs → ((P : Option ℕ → Type 0) → All P bs → (b : Option ℕ) → IsBirthBehind net state b → P b) → IsLeastBirth (IsBirthBehind net state) (unwrap_or (least_with None bs) None)
    go [] all reached = record { no_later = λ b h. tt; is_one = λ b h. reached (λ _. IsBirthBehind net state None) (All-nil _) b h }
    go (b ∷ bs) all reached =
        subst (IsLeastBirth (IsBirthBehind net state)) (sym (ap (λ o. unwrap_or o None) (least_is b bs)))
        (record {
          no_later = λ c h. reached (IsNoLater (least_of b bs)) (All-cons (IsNoLater (least_of b bs)) b bs (least_first b bs) (least_all b bs)) c h;
          is_one = λ c h. least_one (IsBirthBehind net state) b bs (All-head (IsBirthBehind net state) b bs all) (All-tail (IsBirthBehind net state) b bs all);
        })
