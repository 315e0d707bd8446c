-- The tests that the closing of an epoch takes are no more than it asks for.
use Rattle.std.proofs.Common.{◌≡◌, ◌∙◌, sym, ap, refl, subst, ℕ, ◌+◌, ◌≤◌, Bool, true, false, cond, length, length-append, List, arith}
use Rattle.std.specs.Prelude.{Option, Some, None, is_some, sum_by}
use Rattle.std.specs.Option.{option_and_then, option_map}
use Rattle.std.specs.List.{filter, range_with_len}
use Rattle.std.specs.List.Sorted.{IsPermutation}
use Rattle.std.proofs.lemmas.List.{length-map}
use Rattle.std.proofs.lemmas.List.Sorted.{length_permutation, sum_by-IsPermutation}
use Rattle.event_types.specs.Tuple.{TupleView}
use Rattle.instances.specs.declared.instance.Instance.{Instance}
use Rattle.semantics.specs.Denotation.{Streams, streams_of}
use Rattle.semantics.specs.Histories.{Event}
use Rattle.scalar_expr.proofs.Bags.{filter_permuted}
use Rattle.static_index.specs.FixedParts.{first_holds, fixed_parts}
use Rattle.static_index.specs.declared.fixed_part.FixedPart.{FixedPart}
use Rattle.automaton.specs.Flow.{flow}
use Rattle.automaton.specs.Networks.{IsAt}
use Rattle.automaton.specs.Prefixes.{Prefix, Root, After, path}
use Rattle.automaton.specs.States.{Net, edges_at, ends_at, entrance_in, is_used, root_at, root_by, state_at, step_at, wait_at, wait_by}
use Rattle.automaton.specs.declared.line.Hop.{Hop}
use Rattle.automaton.specs.declared.network.End.{End}
use Rattle.automaton.specs.declared.network.Entrance.{Entrance}
use Rattle.automaton.specs.declared.network.State.{State}
use Rattle.automaton.specs.declared.step.Stage.{Stage}
use Rattle.automaton.specs.declared.wait.Wait.{Wait}
use Rattle.stream_readers.specs.Finding.{is_root_on, is_wait_on, waits_on, ways_on}
use Rattle.stream_readers.specs.Ways.{first_parts, is_state_looked_up, is_way_looked_up, parts_in, ways_at}
use Rattle.epoch_laws.specs.BornLines.{BornLine, lines_in}
use Rattle.epoch_laws.specs.Closing.{IsEpoch, Stores, leaving_by, leaving_state}
use Rattle.epoch_laws.specs.Epochs.{took}
use Rattle.epoch_laws.specs.Histories.{streams_over}
use Rattle.epoch_laws.specs.Instances.{bindings_of}
use Rattle.epoch_laws.specs.Standing as standing
use Rattle.epoch_laws.specs.Stores.{IsWithin}
use Rattle.epoch_laws.specs.Times.{during}
use Rattle.epoch_laws.proofs.Lists.{every}
use Rattle.epoch_laws.proofs.Standing.{epoch_flows, epoch_gives}
use Rattle.epoch_draft.specs.Candidates.{candidates_at, candidates_by}
use Rattle.epoch_draft.specs.Takes.{take_work}
use Rattle.epoch_draft.specs.Tests.{tuple_work}
use Rattle.epoch_draft.specs.Work.{keeps, met_work, state_work, way_work, ways_work}
use Rattle.epoch_engine.proofs.BornLemmas.{plain_lines}
use Rattle.epoch_engine.specs.EngineView.{EngineView, stores_in}
use Rattle.epoch_engine.specs.Work.{looking_up, state_tests, step_tests, wait_tests}
use Rattle.epoch_engine.specs.WorkLaws.{IsConsistent, StandsOpen, closing_tests}
use Rattle.epoch_engine.proofs.EpochTests.{finished, finished_epoch, rows_told, told, whole, whole_many, whole_plus, whole_told}
use Rattle.epoch_engine.proofs.NetworkTests.{edge_into, net_sum}
use Rattle.epoch_engine.proofs.StateTests.{out_all, root_less, root_tests, wait_less, with_bindings}
use Rattle.epoch_engine.proofs.TestSums.{sum_fewer, sum_flat, sum_less, sum_plus, sum_same, sum_tested}
use Rattle.epoch_engine.proofs.TrimLemmas.{free_waits, root_waits}
use Rattle.epoch_engine.proofs.WaitTests.{wait_fewer}

-- the stream on which a state waits, if it does
abbrev pub waits_for : Option Wait → Option ℕ
waits_for o = option_map (λ wait. wait.stream) o

-- the tests of a tuple at a state by which it is met, and those by which what it matches is taken out
abbrev pub meeting : Net → Stores → ℕ → Option Wait → TupleView → ℕ
meeting net stores k o t = cond (first_holds t (parts_in o)) (met_work net k o (stores k) t) 0

-- the second of these
abbrev pub taking : Stores → ℕ → Option Wait → TupleView → ℕ
taking stores k o t = cond (first_holds t (parts_in o)) (length (candidates_by o (stores k) t)) 0

module _ (net : Net) (stores : Stores) where
  abbrev all_states : List ℕ
  all_states = range_with_len 0 (length net)

  -- the tests of a tuple, state by state
  tuple_parts : (s : ℕ) (t : TupleView)
      → tuple_work net stores s t ≡ sum_by (λ k. told (root_at net k) (root_tests net k) s t) all_states + sum_by (λ k. told (waits_for (wait_at net k)) (meeting net stores k (wait_at net k)) s t) all_states
  tuple_parts s t =
      let ways =
      sum_tested (is_way_looked_up net t) (way_work net) (ways_on net s)
      ∙ sum_flat (λ way. cond (is_way_looked_up net t way) (way_work net way) 0) (ways_at net) (filter (is_root_on net s) all_states)
      ∙ sum_tested (is_root_on net s) (λ k. root_tests net k t) all_states in
      let waits = sum_tested (is_state_looked_up net t) (state_work net stores t) (waits_on net s) ∙ sum_tested (is_wait_on net s) (λ k. cond (is_state_looked_up net t k) (state_work net stores t k) 0) all_states in
      λ i. ways i + waits i

  take_parts : (s : ℕ) (t : TupleView) → take_work net stores s t ≡ sum_by (λ k. told (waits_for (wait_at net k)) (taking stores k (wait_at net k)) s t) all_states
  take_parts s t =
      sum_tested (is_state_looked_up net t) (λ k. length (candidates_at net stores t k)) (waits_on net s)
      ∙ sum_tested (is_wait_on net s) (λ k. cond (is_state_looked_up net t k) (length (candidates_at net stores t k)) 0) all_states

-- no state is read where none stands, and a waiting state is no root
free_root : (net : Net) (k : ℕ) → is_used net k ≡ false → root_at net k ≡ None
free_root net k free = go (state_at net k) free
  where
    go : (o : Option State) → is_some o ≡ false → option_and_then root_by (entrance_in o) ≡ None
    go None e = refl
    go (Some state) e = absurd (cc)

module _ (engine : EngineView) (lines : List BornLine) (states : List Prefix) (history : List Event) (time : ℕ) (is : IsConsistent engine) (has : StandsOpen engine lines states history time) where
  abbrev net : Net
  net = engine.network

  abbrev order : List ℕ
  order = engine.layout.order

  abbrev stores : Stores
  stores = stores_in engine

  abbrev heard : Streams
  heard = streams_of engine.opened

  abbrev full : Streams
  full = streams_over lines order history

  -- all tuples of the epoch
  abbrev news : Streams
  news = finished net stores order heard

  abbrev all : (ℕ → TupleView → ℕ) → ℕ
  all tests = whole net lines order (length engine.layout.kinds) stores heard tests

  stands : standing.PartsStandFor net lines order stores (Some time) heard engine.closed_time history
  stands = subst (λ (t : Option ℕ). standing.PartsStandFor net lines order stores t heard engine.closed_time history) has.is_open has.stands.stands

  epoch : IsEpoch net order stores heard news
  epoch = finished_epoch net lines order stores heard has.stands.serves

  gives : (s : ℕ) → IsPermutation (news s) (during time (full s))
  gives = epoch_gives net lines order stores time heard news engine.closed_time history has.stands.serves stands epoch

  flows : (k : ℕ) (p : Prefix) → IsAt net k p → IsWithin (bindings_of (leaving_state net news stores k)) (during time (flow full p))
  flows k p at = (epoch_flows net lines order stores time heard news engine.closed_time history has.stands.serves stands epoch k p at).within

  -- the tests of the epoch at a state
  abbrev root_all : ℕ → ℕ
  root_all k = all (told (root_at net k) (root_tests net k))

  abbrev meet_all : ℕ → ℕ
  meet_all k = all (told (waits_for (wait_at net k)) (meeting net stores k (wait_at net k)))

  abbrev take_all : ℕ → ℕ
  take_all k = all (told (waits_for (wait_at net k)) (taking stores k (wait_at net k)))

  -- the closing takes what it takes at each state
  by_states : closing_tests engine ≡ sum_by (λ k. root_all k + (meet_all k + take_all k)) (all_states net stores)
  by_states =
      let n = length engine.layout.kinds in
      let ks = all_states net stores in
      let rooted : ℕ → TupleView → ℕ = λ s t. sum_by (λ k. told (root_at net k) (root_tests net k) s t) ks in
      let met : ℕ → TupleView → ℕ = λ s t. sum_by (λ k. told (waits_for (wait_at net k)) (meeting net stores k (wait_at net k)) s t) ks in
      let draws : all (tuple_work net stores) ≡ all (λ s t. rooted s t + met s t) = λ i. all (λ s t. tuple_parts net stores s t i) in
      let takes : all (take_work net stores) ≡ all (λ s t. sum_by (λ k. told (waits_for (wait_at net k)) (taking stores k (wait_at net k)) s t) ks) = λ i. all (λ s t. take_parts net stores s t i) in
      let two = whole_plus net lines order n stores heard rooted met in
      let roots = whole_many net lines order n stores heard (λ k. told (root_at net k) (root_tests net k)) ks in
      let meets = whole_many net lines order n stores heard (λ k. told (waits_for (wait_at net k)) (meeting net stores k (wait_at net k))) ks in
      let taken = whole_many net lines order n stores heard (λ k. told (waits_for (wait_at net k)) (taking stores k (wait_at net k))) ks in
      let one = sum_plus meet_all take_all ks in
      let both = sum_plus root_all (λ k. meet_all k + take_all k) ks in
      omega (arith, draws, takes, two, roots, meets, taken, one, both)

  -- tests of one stream are those of its tuples
  few : (o : Option ℕ) (g : TupleView → ℕ) → all (told o g) ≤ sum_by g (rows_told news o)
  few = whole_told net lines order (length engine.layout.kinds) stores heard has.stands.serves is.underived

  -- and those of none none
  few_none : (o : Option ℕ) (g : TupleView → ℕ) → o ≡ None → all (told o g) ≤ 0
  few_none o g is = subst (λ (m : ℕ). all (told o g) ≤ m) (ap (λ (o : Option ℕ). sum_by g (rows_told news o)) is) (few o g)

  abbrev tests : Prefix → List Stage → ℕ
  tests p step = step_tests time full p step

  -- the edges and the ends of a state, where it stands for a prefix
  abbrev outs : ℕ → Prefix → ℕ
  outs k p = sum_by (λ next. tests p (step_at net next)) (edges_at net k) + sum_by (λ (end : End). tests p end.step) (ends_at net k)

  same_looked : (s : ℕ) (parts : List FixedPart) (c : ℕ) → sum_by (λ t. c) (looking_up parts (news s)) ≡ sum_by (λ t. c) (looking_up parts (during time (full s)))
  same_looked s parts c = sym (sum_by-IsPermutation (λ t. c) (looking_up parts (news s)) (looking_up parts (during time (full s))) (filter_permuted (λ t. first_holds t parts) (news s) (during time (full s)) (gives s)))

  at_root : (k s : ℕ) → root_at net k ≡ Some s → root_all k + (meet_all k + take_all k) ≤ outs k (Root s)
  at_root k s at =
      let none : waits_for (wait_at net k) ≡ None = ap waits_for (root_waits net k s at) in
      let first = subst (λ (o : Option ℕ). root_all k ≤ sum_by (root_tests net k) (rows_told news o)) at (few (root_at net k) (root_tests net k)) in
      let second = few_none (waits_for (wait_at net k)) (meeting net stores k (wait_at net k)) none in
      let third = few_none (waits_for (wait_at net k)) (taking stores k (wait_at net k)) none in
      let rows = root_less net k (news s) in
      let edges = sum_same (λ next. sum_by (λ t. keeps (step_at net next)) (looking_up (first_parts (step_at net next)) (news s))) (λ next. tests (Root s) (step_at net next)) (λ next. same_looked s (first_parts (step_at net next)) (keeps (step_at net next))) (edges_at net k) in
      let ends = sum_same (λ (end : End). sum_by (λ t. keeps end.step) (looking_up (first_parts end.step) (news s))) (λ end. tests (Root s) end.step) (λ end. same_looked s (first_parts end.step) (keeps end.step)) (ends_at net k) in
      omega (arith, first, second, third, rows, edges, ends)

  module _ (stored : Prefix → List TupleView) (within : (k : ℕ) (p : Prefix) (h : Hop) → IsAt net k (After p h) → IsWithin (bindings_of (stores k)) (stored (After p h))) where
    -- the tests at the wait of a state
    abbrev waits : Prefix → ℕ
    waits (Root s) = 0
    waits (After p h) = wait_tests time full h.wait (stored (After p h))

    at_wait : (k : ℕ) (p : Prefix) (h : Hop) → IsAt net k (After p h) → root_all k + (meet_all k + take_all k) ≤ waits (After p h) + outs k (After p h)
    at_wait k p h at =
        let w = h.wait in
        let rows = news w.stream in
        let waits_so : wait_at net k ≡ Some w = ap (option_and_then wait_by) at.1 in
        let first = few_none (root_at net k) (root_tests net k) (ap (option_and_then root_by) at.1) in
        let second = subst (λ (o : Option Wait). meet_all k ≤ sum_by (meeting net stores k o) (rows_told news (waits_for o))) waits_so (few (waits_for (wait_at net k)) (meeting net stores k (wait_at net k))) in
        let third = subst (λ (o : Option Wait). take_all k ≤ sum_by (taking stores k o) (rows_told news (waits_for o))) waits_so (few (waits_for (wait_at net k)) (taking stores k (wait_at net k))) in
        let asked = wait_less net k w (stores k) rows in
        let same = sum_by-IsPermutation (with_bindings net k w (stores k)) (looking_up (fixed_parts w.choose) rows) (looking_up (fixed_parts w.choose) (during time (full w.stream))) (filter_permuted (λ t. first_holds t (fixed_parts w.choose)) rows (during time (full w.stream)) (gives w.stream)) in
        let fewer = wait_fewer time full w (bindings_of (stores k)) (stored (After p h)) (within k p h at) in
        let left : leaving_state net news stores k ≡ took w.choose w.fold rows (stores k) = ap (λ (o : Option Entrance). leaving_by o news (stores k)) at.1 in
        let len = length-map (leaving_state net news stores k) (λ (i : Instance). i.tuple) in
        let flown = flows k (After p h) at in
        let whole = length_permutation _ _ flown.1 in
        let parts = length-append (bindings_of (leaving_state net news stores k)) flown.0 in
        let same_left = ap length left in
        let no_more : length (took w.choose w.fold rows (stores k)) ≤ length (during time (flow full (After p h))) = omega (arith, whole, parts, len, same_left) in
        let even = sum_fewer (ways_work net (ways_at net k)) (took w.choose w.fold rows (stores k)) (during time (flow full (After p h))) no_more in
        let out = out_all net k (during time (flow full (After p h))) in
        omega (arith, first, second, third, asked, same, fewer, even, out)

    -- the tests at a state, whatever its prefix is
    at_prefix : (k : ℕ) (p : Prefix) → IsAt net k p → root_all k + (meet_all k + take_all k) ≤ waits p + outs k p
    at_prefix k (Root s) at = let out = at_root k s at in omega (arith, out)
    at_prefix k (After p h) at = at_wait k p h at

    abbrev place : ℕ → Prefix
    place = has.stands.serves.has_lines.1.places

    -- and where no state stands
    at_number : (k : ℕ) (b : Bool) → is_used net k ≡ b → root_all k + (meet_all k + take_all k) ≤ cond b (waits (place k)) 0 + outs k (place k)
    at_number k true used = at_prefix k (place k) (has.stands.serves.has_lines.1.are_places k used)
    at_number k false free =
        let none : waits_for (wait_at net k) ≡ None = ap waits_for (free_waits net k free) in
        let first = few_none (root_at net k) (root_tests net k) (free_root net k free) in
        let second = few_none (waits_for (wait_at net k)) (meeting net stores k (wait_at net k)) none in
        let third = few_none (waits_for (wait_at net k)) (taking stores k (wait_at net k)) none in
        omega (arith, first, second, third)

    -- all tests of the closing are those that the epoch asks for
    pub closing_less : closing_tests engine ≤ sum_by (state_tests time full stored) states + sum_by (λ line. tests (path line) line.last) (lines_in lines)
    closing_less =
        let ks = all_states net stores in
        let has_lines = plain_lines net lines has.stands.serves.has_lines in
        let merged = has.stands.merged in
        let sums = by_states in
        let each =
        sum_less (λ k. root_all k + (meet_all k + take_all k)) (λ k. cond (is_used net k) (waits (place k)) 0 + outs k (place k)) ks
        (every (λ k. root_all k + (meet_all k + take_all k) ≤ cond (is_used net k) (waits (place k)) 0 + outs k (place k)) (λ k. at_number k (is_used net k) refl) ks) in
        let net_wide = net_sum net (lines_in lines) merged is.network has_lines tests waits states has.listed in
        let by_prefix = sum_same (λ p. edge_into net (lines_in lines) merged is.network has_lines tests p + waits p) (state_tests time full stored) both states in
        omega (arith, sums, each, net_wide, by_prefix)
      where
        both : (p : Prefix) → edge_into net (lines_in lines) has.stands.merged is.network (plain_lines net lines has.stands.serves.has_lines) tests p + waits p ≡ state_tests time full stored p
        both (Root s) = refl
        both (After p h) = refl
