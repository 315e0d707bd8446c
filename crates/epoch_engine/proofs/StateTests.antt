-- The tests of an epoch at one state.
use Rattle.std.proofs.Common.{◌≡◌, ◌∙◌, sym, ap, refl, ℕ, ◌+◌, ◌≤◌, Bool, true, false, cond, length, List, ◌++◌, map, arith}
use Rattle.std.specs.Prelude.{Option, Some, None, sum_by}
use Rattle.std.specs.List.{filter, flat_map}
use Rattle.std.proofs.lemmas.List.Sorted.{sum_by-IsPermutation}
use Rattle.std.proofs.lemmas.List.Sums.{sum_by-append}
use Rattle.event_types.specs.Tuple.{TupleView}
use Rattle.instances.specs.Keys.{Key, candidates_of, key_matches}
use Rattle.instances.specs.declared.instance.Instance.{Instance}
use Rattle.semantics.proofs.ListLemmas.{filter-map}
use Rattle.semantics.proofs.ReportLemmas.{filter_all}
use Rattle.binding_index.specs.KeyParts.{first_key}
use Rattle.static_index.specs.FixedParts.{first_holds, fixed_parts}
use Rattle.static_index.specs.declared.fixed_part.FixedPart.{FixedPart}
use Rattle.automaton.specs.States.{Net, edges_at, ends_at, step_at, wait_at}
use Rattle.automaton.specs.declared.network.End.{End}
use Rattle.automaton.specs.declared.wait.Turn.{Turn}
use Rattle.automaton.specs.declared.wait.Wait.{Wait}
use Rattle.stream_readers.specs.Ways.{Into, Out, Way, backs_by, backs_in, first_parts, is_way_looked_up, ways_at}
use Rattle.epoch_laws.specs.Epochs.{took}
use Rattle.epoch_laws.specs.Instances.{began, bindings_of}
use Rattle.epoch_laws.proofs.Lists.{every}
use Rattle.epoch_draft.specs.Candidates.{candidates_by}
use Rattle.epoch_draft.specs.Pairs.{met, paired, paired_with}
use Rattle.epoch_draft.specs.Work.{binding_work, keeps, met_work, pair_work, turn_work, way_work, ways_work}
use Rattle.epoch_draft.proofs.Pairs.{met_took}
use Rattle.epoch_draft.proofs.WorkLemmas.{out_work}
use Rattle.epoch_engine.specs.Work.{keyed_bindings, looking_up, pair_tests}
use Rattle.prefix_merge.proofs.ContainLemmas.{sum_ones}
use Rattle.epoch_engine.proofs.TestSums.{sum_flat, sum_images, sum_less, sum_passing, sum_plus, sum_same, sum_tested, sum_turned}

-- the tests on the ways out of a state for each of these tuples
abbrev pub out_tests : Net → ℕ → List TupleView → ℕ
out_tests net k rows = sum_by (λ next. sum_by (λ t. keeps (step_at net next)) rows) (edges_at net k) + sum_by (λ end. sum_by (λ t. keeps end.step) rows) (ends_at net k)

-- the same for those by which each way is looked up
abbrev pub looked_up_tests : Net → ℕ → List TupleView → ℕ
looked_up_tests net k rows =
    sum_by (λ next. sum_by (λ t. keeps (step_at net next)) (looking_up (first_parts (step_at net next)) rows)) (edges_at net k)
    + sum_by (λ end. sum_by (λ t. keeps end.step) (looking_up (first_parts end.step) rows)) (ends_at net k)

-- the tests of a tuple on the ways out of a state by which it is looked up
abbrev pub root_tests : Net → ℕ → TupleView → ℕ
root_tests net k t = sum_by (λ way. cond (is_way_looked_up net t way) (way_work net way) 0) (ways_at net k)

no_back : (net : Net) (k : ℕ) (t : TupleView) (fold : Option Turn) → sum_by (λ way. cond (is_way_looked_up net t way) (way_work net way) 0) (backs_in k fold) ≡ 0
no_back net k t None = refl
no_back net k t (Some turn) = refl

no_backs : (net : Net) (k : ℕ) (t : TupleView) (o : Option Wait) → sum_by (λ way. cond (is_way_looked_up net t way) (way_work net way) 0) (backs_by k o) ≡ 0
no_backs net k t None = refl
no_backs net k t (Some w) = no_back net k t w.fold

-- a sum of tests that only some tuples have
looked : (parts : List FixedPart) (c : ℕ) (rows : List TupleView) → sum_by (λ t. cond (first_holds t parts) c 0) rows ≡ sum_by (λ t. c) (looking_up parts rows)
looked parts c rows = sym (sum_tested (λ t. first_holds t parts) (λ t. c) rows)

-- the tests of a tuple on an edge by which it is looked up
abbrev pub edge_tests : Net → TupleView → ℕ → ℕ
edge_tests net t next = cond (first_holds t (first_parts (step_at net next))) (keeps (step_at net next)) 0

-- and for an end
abbrev pub exit_tests : TupleView → End → ℕ
exit_tests t end = cond (first_holds t (first_parts end.step)) (keeps end.step) 0

-- tuples at a root
pub root_less : (net : Net) (k : ℕ) (rows : List TupleView) → sum_by (root_tests net k) rows ≡ looked_up_tests net k rows
root_less net k rows =
    let each : sum_by (root_tests net k) rows ≡ sum_by (λ t. sum_by (edge_tests net t) (edges_at net k) + sum_by (exit_tests t) (ends_at net k)) rows = sum_same (root_tests net k) (λ t. sum_by (edge_tests net t) (edges_at net k) + sum_by (exit_tests t) (ends_at net k)) ways rows in
    let both = sum_plus (λ t. sum_by (edge_tests net t) (edges_at net k)) (λ t. sum_by (exit_tests t) (ends_at net k)) rows in
    let edges = sum_turned (edge_tests net) rows (edges_at net k) in
    let exits = sum_turned exit_tests rows (ends_at net k) in
    let one = sum_same (λ next. sum_by (λ t. edge_tests net t next) rows) (λ next. sum_by (λ t. keeps (step_at net next)) (looking_up (first_parts (step_at net next)) rows)) (λ next. looked (first_parts (step_at net next)) (keeps (step_at net next)) rows) (edges_at net k) in
    let two = sum_same (λ (end : End). sum_by (λ t. exit_tests t end) rows) (λ end. sum_by (λ t. keeps end.step) (looking_up (first_parts end.step) rows)) (λ end. looked (first_parts end.step) (keeps end.step) rows) (ends_at net k) in
    omega (arith, each, both, edges, exits, one, two)
  where
    ways : (t : TupleView) → root_tests net k t ≡ sum_by (edge_tests net t) (edges_at net k) + sum_by (exit_tests t) (ends_at net k)
    ways t =
        let way : Way → ℕ = λ way. cond (is_way_looked_up net t way) (way_work net way) 0 in
        let one = sum_by-append way (map Into (edges_at net k)) (map Out (ends_at net k) ++ backs_by k (wait_at net k)) in
        let two = sum_by-append way (map Out (ends_at net k)) (backs_by k (wait_at net k)) in
        let three = no_backs net k t (wait_at net k) in
        let into = sum_images way Into (edges_at net k) in
        let out = sum_images way Out (ends_at net k) in omega (arith, one, two, three, into, out)

-- the tests on all ways out for each of these tuples
pub out_all : (net : Net) (k : ℕ) (rows : List TupleView) → sum_by (λ t. ways_work net (ways_at net k)) rows ≡ out_tests net k rows
out_all net k rows =
    let each : sum_by (λ (t : TupleView). ways_work net (ways_at net k)) rows ≡ sum_by (λ t. sum_by (λ next. keeps (step_at net next)) (edges_at net k) + sum_by (λ (end : End). keeps end.step) (ends_at net k)) rows =
    sum_same (λ t. ways_work net (ways_at net k)) (λ t. sum_by (λ next. keeps (step_at net next)) (edges_at net k) + sum_by (λ (end : End). keeps end.step) (ends_at net k)) (λ t. ways) rows in
    let both = sum_plus (λ (t : TupleView). sum_by (λ next. keeps (step_at net next)) (edges_at net k)) (λ t. sum_by (λ (end : End). keeps end.step) (ends_at net k)) rows in
    let edges = sum_turned (λ (t : TupleView) next. keeps (step_at net next)) rows (edges_at net k) in
    let exits = sum_turned (λ (t : TupleView) (end : End). keeps end.step) rows (ends_at net k) in
    omega (arith, each, both, edges, exits)
  where
    ways : ways_work net (ways_at net k) ≡ sum_by (λ next. keeps (step_at net next)) (edges_at net k) + sum_by (λ (end : End). keeps end.step) (ends_at net k)
    ways =
        let one = out_work net k in
        let into = sum_images (way_work net) Into (edges_at net k) in
        let out = sum_images (way_work net) Out (ends_at net k) in omega (arith, one, into, out)

-- the candidates of a tuple are the instances whose bindings it may match as far as the key tells
candidates_are : (key : Option Key) (t : TupleView) (store : List Instance) → candidates_of key t store ≡ filter (λ (i : Instance). key_matches key t i.tuple) store
candidates_are None t store = sym (filter_all (λ (i : Instance). true) store (every (λ (i : Instance). true ≡ true) (λ i. refl) store))
candidates_are (Some key) t store = refl

-- the tests of a tuple with an instance, with that by which it is taken out
pair_is : (w : Wait) → pair_work w + 1 ≡ pair_tests w.fold
pair_is w = go w.fold
  where
    go : (fold : Option Turn) → 1 + turn_work fold + 1 ≡ pair_tests fold
    go None = refl
    go (Some turn) = refl

module _ (net : Net) (k : ℕ) (w : Wait) (store : List Instance) where
  -- the tests of a tuple with the instances that it may match
  abbrev pub with_bindings : TupleView → ℕ
  with_bindings t = sum_by (λ b. pair_tests w.fold) (keyed_bindings w.choose t (bindings_of store))

  -- and those of what it makes of them
  abbrev pub with_made : TupleView → ℕ
  with_made t = sum_by (λ (i : Instance). ways_work net (ways_at net k)) (met w store t)

  found : TupleView → List Instance
  found t = filter (λ (i : Instance). key_matches (first_key w.choose) t i.tuple) store

  bindings_found : (t : TupleView) → keyed_bindings w.choose t (bindings_of store) ≡ bindings_of (found t)
  unfolding found
  bindings_found t = filter-map (key_matches (first_key w.choose) t) (λ (i : Instance). i.tuple) store

  made_less : (t : TupleView) → sum_by (λ (i : Instance). sum_by (λ made. ways_work net (ways_at net k)) (paired w i.tuple t)) (found t) ≤ with_made t
  unfolding found
  made_less t =
      let c = ways_work net (ways_at net k) in
      let fewer = sum_passing (λ (i : Instance). key_matches (first_key w.choose) t i.tuple) (λ (i : Instance). sum_by (λ made. c) (paired w i.tuple t)) store in
      let each = sum_same (λ (i : Instance). sum_by (λ (made : Instance). c) (paired_with w t i)) (λ i. sum_by (λ made. c) (paired w i.tuple t)) (λ i. sum_images (λ (made : Instance). c) (began i.first) (paired w i.tuple t)) store in
      let all = sum_flat (λ (made : Instance). c) (paired_with w t) store in omega (arith, fewer, each, all)

  -- the tests of a tuple at the state, with those by which what it matches is taken out
  tuple_less : (t : TupleView) → met_work net k (Some w) store t + length (candidates_by (Some w) store t) ≤ with_bindings t + with_made t
  unfolding found
  tuple_less t =
      let c = ways_work net (ways_at net k) in
      let are = candidates_are (first_key w.choose) t store in
      let work : met_work net k (Some w) store t ≡ sum_by (binding_work net k w t) (found t) = ap (sum_by (binding_work net k w t)) are in
      let many : length (candidates_by (Some w) store t) ≡ length (found t) = ap length are in
      let both = sum_plus (λ (i : Instance). pair_work w) (λ (i : Instance). sum_by (λ made. c) (paired w i.tuple t)) (found t) in
      let ones = sum_ones (found t) in
      let pairs = sum_plus (λ (i : Instance). pair_work w) (λ (i : Instance). 1) (found t) in
      let tests = sum_same (λ (i : Instance). pair_work w + 1) (λ (i : Instance). pair_tests w.fold) (λ i. pair_is w) (found t) in
      let bindings : with_bindings t ≡ sum_by (λ (i : Instance). pair_tests w.fold) (found t) = ap (sum_by (λ b. pair_tests w.fold)) (bindings_found t) ∙ sum_images (λ b. pair_tests w.fold) (λ (i : Instance). i.tuple) (found t) in
      let made = made_less t in omega (arith, work, many, both, ones, pairs, tests, bindings, made)

  -- the tests of all tuples of a stream at the state
  pub wait_less : (rows : List TupleView)
      → sum_by (λ t. cond (first_holds t (fixed_parts w.choose)) (met_work net k (Some w) store t) 0) rows + sum_by (λ t. cond (first_holds t (fixed_parts w.choose)) (length (candidates_by (Some w) store t)) 0) rows
      ≤ sum_by with_bindings (looking_up (fixed_parts w.choose) rows) + sum_by (λ (i : Instance). ways_work net (ways_at net k)) (took w.choose w.fold rows store)
  wait_less rows =
      let meets : TupleView → ℕ = λ t. cond (first_holds t (fixed_parts w.choose)) (met_work net k (Some w) store t) 0 in
      let takes : TupleView → ℕ = λ t. cond (first_holds t (fixed_parts w.choose)) (length (candidates_by (Some w) store t)) 0 in
      let asks : TupleView → ℕ = λ t. cond (first_holds t (fixed_parts w.choose)) (with_bindings t) 0 in
      let first = sum_plus meets takes rows in
      let each = sum_less (λ t. meets t + takes t) (λ t. asks t + with_made t) rows (every (λ t. meets t + takes t ≤ asks t + with_made t) (λ t. tested t (first_holds t (fixed_parts w.choose))) rows) in
      let last = sum_plus asks with_made rows in
      let bindings = sum_tested (λ t. first_holds t (fixed_parts w.choose)) with_bindings rows in
      let made = sum_flat (λ (i : Instance). ways_work net (ways_at net k)) (met w store) rows in
      let same = sum_by-IsPermutation (λ (i : Instance). ways_work net (ways_at net k)) (flat_map (met w store) rows) (took w.choose w.fold rows store) (met_took w store rows) in
      omega (arith, first, each, last, bindings, made, same)
    where
      tested : (t : TupleView) (b : Bool) → cond b (met_work net k (Some w) store t) 0 + cond b (length (candidates_by (Some w) store t)) 0 ≤ cond b (with_bindings t) 0 + with_made t
      tested t true = tuple_less t
      tested t false = omega arith
