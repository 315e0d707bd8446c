-- Tests over the states of a network, by the prefixes and the ends of its lines.
use Rattle.std.proofs.Common.{◌≡◌, ◌∙◌, sym, ap, refl, ℕ, suc, ◌+◌, ◌≤◌, ◌==◌, Bool, true, cond, length, List, [], ◌∷◌, map, arith}
use Rattle.std.specs.Prelude.{Contains, Option, Some, None, is_some, sum_by}
use Rattle.std.specs.Option.{option_and_then, option_map, unwrap_or}
use Rattle.std.specs.List.{range_with_len}
use Rattle.std.proofs.lemmas.List.Elements.{All-contains_itself, All-weaker}
use Rattle.std.proofs.lemmas.List.Sorted.{sum_by-IsPermutation}
use Rattle.std.proofs.lemmas.List.Sums.{sum_by-cons}
use Rattle.automaton.specs.NetworkLines.{Ending, HasLines, ending_at, endings_by}
use Rattle.automaton.specs.Networks.{IsAt, IsNetwork}
use Rattle.automaton.specs.Prefixes.{Prefix, Root, After, path}
use Rattle.automaton.specs.States.{Net, before_at, before_by, edges_at, ends_at, entrance_at, entrance_in, is_used, root_at, root_by, state_at, step_at, step_by, tells}
use Rattle.automaton.specs.declared.line.Line.{Line}
use Rattle.automaton.specs.declared.network.End.{End}
use Rattle.automaton.specs.declared.network.Entrance.{Entrance}
use Rattle.automaton.specs.declared.network.Entrance.TheVariants as entrance
use Rattle.automaton.specs.declared.network.State.{State}
use Rattle.automaton.specs.declared.step.Stage.{Stage}
use Rattle.automaton.proofs.SlotLemmas.{at_one, at_used, used_below}
use Rattle.epoch_laws.proofs.Lists.{every}
use Rattle.epoch_laws.proofs.Networks.{path_back}
use Rattle.epoch_draft.proofs.EdgeLemmas.{edge_before}
use Rattle.prefix_merge.specs.Counts.{ListPrefixes}
use Rattle.prefix_merge.specs.Merging.{IsMerged}
use Rattle.prefix_merge.proofs.CountLemmas as count
use Rattle.prefix_merge.proofs.CountLemmas.{numbers_from}
use Rattle.prefix_merge.proofs.ContainLemmas.{sum_distinct}
use Rattle.epoch_engine.proofs.TestSums.{in_range_has, one_of_range, sum_counted, sum_flat, sum_images, sum_less, sum_nothing, sum_plus, sum_same, sum_turned}

-- a sum over the numbers that are used, by induction on the network
used_sum : (f : ℕ → ℕ) (used : ℕ → Bool) (net : Net) (first : ℕ) → ((j : ℕ) → used (first + j) ≡ is_used net j) → sum_by (λ k. cond (used k) (f k) 0) (range_with_len first (length net)) ≡ sum_by f (numbers_from net first)
used_sum f used [] first same = refl
used_sum f used (None ∷ net) first same =
    let here : cond (used first) (f first) 0 ≡ 0 = ap (λ b. cond b (f first) 0) (ap used (let e : first ≡ first + 0 = omega arith in e) ∙ same 0) in
    let one = sum_by-cons (λ k. cond (used k) (f k) 0) first (range_with_len (first + 1) (length net)) in
    let rest = used_sum f used net (first + 1) (λ j. ap used (let e : first + 1 + j ≡ first + suc j = omega arith in e) ∙ same (suc j)) in omega (arith, here, one, rest)
used_sum f used (Some state ∷ net) first same =
    let here : cond (used first) (f first) 0 ≡ f first = ap (λ b. cond b (f first) 0) (ap used (let e : first ≡ first + 0 = omega arith in e) ∙ same 0) in
    let one = sum_by-cons (λ k. cond (used k) (f k) 0) first (range_with_len (first + 1) (length net)) in
    let two = sum_by-cons f first (numbers_from net (first + 1)) in
    let rest = used_sum f used net (first + 1) (λ j. ap used (let e : first + 1 + j ≡ first + suc j = omega arith in e) ∙ same (suc j)) in omega (arith, here, one, two, rest)

-- a state that stands behind another is there
before_used : (net : Net) (k m : ℕ) → before_at net k ≡ Some m → is_used net k ≡ true
before_used net k m is = go (state_at net k) is
  where
    go : (o : Option State) → option_and_then before_by (entrance_in o) ≡ Some m → is_some o ≡ true
    go None e = absurd (cc)
    go (Some state) e = refl

-- no state stands behind another as a root
root_before : (net : Net) (k s : ℕ) → root_at net k ≡ Some s → before_at net k ≡ None
root_before net k s is = go (entrance_at net k) is
  where
    go : (o : Option Entrance) → option_and_then root_by o ≡ Some s → option_and_then before_by o ≡ None
    go None e = refl
    go (Some (entrance.Root t)) e = refl
    go (Some (entrance.Waiting before hop)) e = absurd (cc)

module _ (net : Net) (lines : List Line) (merged : IsMerged net) (network : IsNetwork net) (has : HasLines net lines) (tests : Prefix → List Stage → ℕ) where
  abbrev pub places : ℕ → Prefix
  places = count.places net lines merged has

  abbrev pub range : List ℕ
  range = range_with_len 0 (length net)

  -- the tests on an edge out of a state
  abbrev pub edge_out : ℕ → ℕ → ℕ
  edge_out k next = tests (places k) (step_at net next)

  -- the tests for an end at a state
  abbrev pub end_out : ℕ → End → ℕ
  end_out k end = tests (places k) end.step

  -- the tests on the edge into the state of a prefix
  abbrev pub edge_into : Prefix → ℕ
  edge_into (Root s) = 0
  edge_into (After p h) = tests p h.step

  -- the tests for a line with the number of its end
  abbrev ending_tests : Ending → ℕ
  ending_tests e = tests (path e.line) e.line.last

  -- all ends are those of the lines
  ends_sum : sum_by (λ k. sum_by (end_out k) (ends_at net k)) range ≡ sum_by (λ line. tests (path line) line.last) lines
  ends_sum =
      let each = sum_same (λ k. sum_by (end_out k) (ends_at net k)) (λ k. sum_by ending_tests (map (ending_at (places k)) (ends_at net k))) one range in
      let all = sum_flat ending_tests (λ k. map (ending_at (places k)) (ends_at net k)) range in
      let same = sum_by-IsPermutation ending_tests (endings_by places net) has.0 has.1.same in
      let images = sum_images (λ (line : Line). tests (path line) line.last) (λ (e : Ending). e.line) has.0 in
      let are : sum_by (λ line. tests (path line) line.last) (map (λ (e : Ending). e.line) has.0) ≡ sum_by (λ line. tests (path line) line.last) lines = ap (sum_by (λ line. tests (path line) line.last)) has.2 in
      omega (arith, each, all, same, images, are)
    where
      one : (k : ℕ) → sum_by (end_out k) (ends_at net k) ≡ sum_by ending_tests (map (ending_at (places k)) (ends_at net k))
      one k =
          sum_same (end_out k) (λ end. ending_tests (ending_at (places k) end)) (λ end. ap (λ (p : Prefix). tests p end.step) (sym (path_back (places k)))) (ends_at net k)
          ∙ sym (sum_images ending_tests (ending_at (places k)) (ends_at net k))

  -- the edges out of one state are those into the states behind it
  edges_of : (k : ℕ) → sum_by (edge_out k) (edges_at net k) ≤ sum_by (λ c. cond (tells k (before_at net c)) (edge_out k c) 0) range
  edges_of k =
      let edges = edges_at net k in
      let more = sum_less (edge_out k) (λ x. sum_by (λ c. cond (x == c) (edge_out k c) 0) range) edges
      (All-weaker (Contains edges) (λ x. edge_out k x ≤ sum_by (λ c. cond (x == c) (edge_out k c) 0) range)
      (λ x there. in_range_has (edge_out k) x 0 (length net) (omega arith) (let below = used_below net x (before_used net x k (edge_before net network k x there)) in omega (arith, below))) edges (All-contains_itself edges)) in
      let turned = sum_turned (λ x c. cond (x == c) (edge_out k c) 0) edges range in
      let counted =
      sum_same (λ c. sum_by (λ x. cond (x == c) (edge_out k c) 0) edges) (λ c. cond (tells k (before_at net c)) (edge_out k c) 0)
      (λ c. sum_counted (λ x. x == c) (edge_out k c) (tells k (before_at net c)) edges (network.edges k c)) range in omega (arith, more, turned, counted)

  -- the edge into a state
  edge_is : (c m : ℕ) → before_at net c ≡ Some m → edge_out m c ≡ cond (is_used net c) (edge_into (places c)) 0
  edge_is c m is = go (places c) (has.1.are_places c used) ∙ ap (λ b. cond b (edge_into (places c)) 0) (sym used)
    where
      used : is_used net c ≡ true
      used = before_used net c m is

      go : (p : Prefix) → IsAt net c p → edge_out m c ≡ edge_into p
      go (Root s) at = absurd (none (sym is ∙ root_before net c s at))
        where
          none : Some m ≡ None → ⊥
          none e = absurd (cc)
      go (After p h) at =
          let behind : Some at.0 ≡ Some m = sym (ap (option_and_then before_by) at.1) ∙ is in
          let same : at.0 ≡ m = ap (λ (o : Option ℕ). unwrap_or o 0) behind in
          let step : step_at net c ≡ h.step = ap (λ (o : Option Entrance). unwrap_or (option_map step_by o) []) at.1 in
          let place : places m ≡ p = sym (ap places same) ∙ at_one net at.0 (places at.0) p (has.1.are_places at.0 (at_used net at.0 p at.2)) at.2 in
          λ i. tests (place i) (step i)

  into_less : (c : ℕ) (o : Option ℕ) → before_at net c ≡ o → sum_by (λ k. cond (tells k o) (edge_out k c) 0) range ≤ cond (is_used net c) (edge_into (places c)) 0
  into_less c None is = let none = sum_nothing range in omega (arith, none)
  into_less c (Some m) is = let few = one_of_range (λ k. edge_out k c) m 0 (length net) in let one = edge_is c m is in omega (arith, few, one)

  -- all edges are those into the states
  edges_sum : sum_by (λ k. sum_by (edge_out k) (edges_at net k)) range ≤ sum_by (λ c. cond (is_used net c) (edge_into (places c)) 0) range
  edges_sum =
      let each = sum_less (λ k. sum_by (edge_out k) (edges_at net k)) (λ k. sum_by (λ c. cond (tells k (before_at net c)) (edge_out k c) 0) range) range
      (every (λ k. sum_by (edge_out k) (edges_at net k) ≤ sum_by (λ c. cond (tells k (before_at net c)) (edge_out k c) 0) range) edges_of range) in
      let turned = sum_turned (λ k c. cond (tells k (before_at net c)) (edge_out k c) 0) range range in
      let into = sum_less (λ c. sum_by (λ k. cond (tells k (before_at net c)) (edge_out k c) 0) range) (λ c. cond (is_used net c) (edge_into (places c)) 0) range
      (every (λ c. sum_by (λ k. cond (tells k (before_at net c)) (edge_out k c) 0) range ≤ cond (is_used net c) (edge_into (places c)) 0) (λ c. into_less c (before_at net c) refl) range) in
      omega (arith, each, turned, into)

  -- the tests at all states, on all their edges and for all their ends are those of the prefixes and of the lines
  pub net_sum : (waits : Prefix → ℕ) (states : List Prefix) → ListPrefixes lines states
      → sum_by (λ k. cond (is_used net k) (waits (places k)) 0 + (sum_by (edge_out k) (edges_at net k) + sum_by (end_out k) (ends_at net k))) range
      ≤ sum_by (λ p. edge_into p + waits p) states + sum_by (λ line. tests (path line) line.last) lines
  net_sum waits states are =
      let numbers = numbers_from net 0 in
      let parts = sum_plus (λ k. cond (is_used net k) (waits (places k)) 0) (λ k. sum_by (edge_out k) (edges_at net k) + sum_by (end_out k) (ends_at net k)) range in
      let ways = sum_plus (λ k. sum_by (edge_out k) (edges_at net k)) (λ k. sum_by (end_out k) (ends_at net k)) range in
      let edges = edges_sum in
      let ends = ends_sum in
      let used = used_sum (λ k. waits (places k)) (is_used net) net 0 (λ j. ap (is_used net) (let e : 0 + j ≡ j = omega arith in e)) in
      let into = used_sum (λ k. edge_into (places k)) (is_used net) net 0 (λ j. ap (is_used net) (let e : 0 + j ≡ j = omega arith in e)) in
      let both = sum_plus (λ k. edge_into (places k)) (λ k. waits (places k)) numbers in
      let images = sum_images (λ p. edge_into p + waits p) places numbers in
      let own = count.states_distinct net lines merged has in
      let fewer = sum_distinct (λ p. edge_into p + waits p) (map places numbers) states own.apart (λ p there. (are.same p).1 ((own.same p).0 there)) in
      omega (arith, parts, ways, edges, ends, used, into, both, images, fewer)
