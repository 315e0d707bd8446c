-- What a typed network makes of tuples of its kinds.
use Rattle.std.proofs.Common.{◌≡◌, ◌∙◌, sym, ap, refl, subst, ℕ, ◌==◌, true, length, get_or, List, [], ◌∷◌, ◌++◌, map}
use Rattle.std.specs.Prelude.{Contains, Option, Some, None, slice_get}
use Rattle.std.specs.Option.{option_and_then, option_map, unwrap_or}
use Rattle.std.specs.List.{All, filter, filter_map, range_with_len}
use Rattle.std.proofs.lemmas.List.{append-nil}
use Rattle.std.proofs.lemmas.List.Elements.{All-append, All-cons, All-contains_itself, All-filter, All-map, All-nil, All-weaker, filter_passes}
use Rattle.std.proofs.lemmas.List.Sorted.{All-permutation, IsPermutation-sym}
use Rattle.event_types.specs.declared.kind.Kind.{Kind}
use Rattle.event_types.specs.Tuple.{TupleView}
use Rattle.event_types.proofs.NumberLemmas.{same_number}
use Rattle.binding_index.specs.declared.store.Store.{Store}
use Rattle.instances.specs.declared.instance.Instance.{Instance}
use Rattle.semantics.specs.Denotation.{Streams}
use Rattle.semantics.specs.Kinds.{HasKinds}
use Rattle.automaton.specs.Networks.{IsNetwork}
use Rattle.automaton.specs.States.{Net, before_at, before_by, edges_at, ends_at, entrance_at, root_at, root_by, state_at, step_at, step_by, tells, wait_at, wait_by}
use Rattle.automaton.specs.Steps.{pass}
use Rattle.automaton.specs.LineKinds.{StepGives}
use Rattle.automaton.specs.declared.line.Hop.{Hop}
use Rattle.automaton.specs.declared.network.End.{End}
use Rattle.automaton.specs.declared.network.Entrance.{Entrance}
use Rattle.automaton.specs.declared.network.Entrance.TheVariants.{Root, Waiting}
use Rattle.automaton.specs.declared.network.State.{State}
use Rattle.automaton.specs.declared.step.Stage.{Stage}
use Rattle.automaton.specs.declared.wait.Turn.{Turn}
use Rattle.automaton.specs.declared.wait.Wait.{Wait}
use Rattle.stream_readers.specs.Finding.{is_root_on, is_wait_on, waits_on}
use Rattle.stream_readers.specs.Ways.{Back, Into, Out, backs_by, backs_in, ways_at}
use Rattle.semantics.specs.Births.{is_after}
use Rattle.instances.specs.Births.{began_after}
use Rattle.epoch_laws.specs.Closing.{leaving_state, leaving_by, given_by_end, given_by_ends, given_by_ends_at}
use Rattle.epoch_laws.specs.Epochs.{took}
use Rattle.epoch_laws.specs.Instances.{begins, bindings_of, pass_instance}
use Rattle.epoch_laws.proofs.Bindings.{passing_bindings}
use Rattle.epoch_laws.proofs.Lists.{All-flat_map, every, map_all}
use Rattle.epoch_draft.specs.Held.{held, instances_in}
use Rattle.epoch_draft.specs.Kindings.{EndFits}
use Rattle.epoch_draft.specs.Pairs.{met}
use Rattle.epoch_draft.specs.Suits.{LeavingSuits, MeetingSuits, StepSuits, TupleSuits, WaitSuits, WaySuits}
use Rattle.epoch_draft.specs.Typed.{HaveKinds, IsTyped}
use Rattle.epoch_draft.proofs.EdgeLemmas.{edge_before}
use Rattle.epoch_draft.proofs.KeyLemmas.{event_fits}
use Rattle.epoch_draft.proofs.Pairs.{met_took}
use Rattle.epoch_draft.proofs.StateLemmas.{at_wait, hop_typed, root_typed, wait_entry, wait_leaves, wait_typed}
use Rattle.epoch_draft.proofs.TypingLemmas.{passed_kinds, step_passes, took_kinds, wait_suits}
use Rattle.epoch_draft.proofs.Lists.{some_is}

told : (s : ℕ) (o : Option ℕ) → tells s o ≡ true → o ≡ Some s
told s None e = absurd (cc)
told s (Some t) e = ap Some (same_number t s e)

step_suits : (step : List Stage) (ks out : List Kind) (x : TupleView) → StepGives step ks out → HasKinds ks x → StepSuits step x
step_suits step ks out x gives h = (step_passes step ks out x gives h).suits

-- what holds of all that passes the step of an end holds of what the end gives
passed_after : (P : TupleView → Type 0) (e : End) (store : List Instance) → All P (filter_map (pass e.step) (bindings_of store)) → All P (given_by_end store e)
passed_after P e store all =
    All-map P (λ (i : Instance). i.tuple) (began_after e.birth (filter_map (pass_instance e.step) store))
    (All-filter (λ (i : Instance). is_after e.birth i.first) (λ (i : Instance). P i.tuple) (filter_map (pass_instance e.step) store)
    (map_all P (λ (i : Instance). i.tuple) (filter_map (pass_instance e.step) store) (subst (λ ts. All P ts) (sym (passing_bindings e.step store)) all)))

-- a waiting state by the state before it
by_before : (net : Net) (k n : ℕ) → before_at net k ≡ Some n → (hop : Hop) × (entrance_at net k ≡ Some (Waiting n hop))
by_before net k n e = go (entrance_at net k) refl e
  where
    go : (o : Option Entrance) → entrance_at net k ≡ o → option_and_then before_by o ≡ Some n → (hop : Hop) × (entrance_at net k ≡ Some (Waiting n hop))
    go None at e = absurd (cc)
    go (Some (Root s)) at e = absurd (cc)
    go (Some (Waiting b hop)) at e = (hop, at ∙ ap (λ (m : ℕ). Some (Waiting m hop)) (some_is b n e))

module _ (net : Net) (network : IsNetwork net) (kinds : List (List Kind)) (stores : List (Option Store)) (typed : IsTyped net kinds stores) where
  -- the instances at a state have its kinds
  pub instances_typed : (n : ℕ) (w : Wait) → wait_at net n ≡ Some w → All (λ (i : Instance). HasKinds (typed.kinding.waiting n) i.tuple) (held stores n)
  instances_typed n w at =
      let found = typed.has_stores n w at in
      subst (λ (o : Option Store). All (λ (i : Instance). HasKinds (typed.kinding.waiting n) i.tuple) (instances_in o)) (sym found.1) found.2.instances

  ends_typed : (n : ℕ) → All (EndFits kinds (typed.kinding.leaving n)) (ends_at net n)
  ends_typed n = go (state_at net n) refl
    where
      go : (o : Option State) → state_at net n ≡ o → All (EndFits kinds (typed.kinding.leaving n)) (ends_at net n)
      go None e = subst (All (EndFits kinds (typed.kinding.leaving n))) (sym (ap (λ (o : Option State). unwrap_or (option_map (λ (s : State). s.ends) o) []) e)) (All-nil (EndFits kinds (typed.kinding.leaving n)))
      go (Some state) e = subst (All (EndFits kinds (typed.kinding.leaving n))) (sym (ap (λ (o : Option State). unwrap_or (option_map (λ (s : State). s.ends) o) []) e)) (typed.states n state e).1

  -- the step into a state suits what leaves the state before it
  into_suits : (n : ℕ) (x : TupleView) → HasKinds (typed.kinding.leaving n) x → (k : ℕ) → Contains (edges_at net n) k → StepSuits (step_at net k) x
  into_suits n x h k there =
      let found = by_before net k n (edge_before net network n k there) in
      let hop = found.0 in
      let at = at_wait net k hop.wait (ap (option_and_then wait_by) found.1) in
      let same = some_is (Waiting at.before at.hop) (Waiting n hop) (sym (wait_entry net k hop.wait at) ∙ found.1) in
      let typed_hop = hop_typed kinds net typed.kinding typed.states k hop.wait at in
      let step_is : step_at net k ≡ at.hop.step = ap (λ (o : Option Entrance). unwrap_or (option_map step_by o) []) (wait_entry net k hop.wait at) in
      let before_is : at.before ≡ n = before_of at.before n at.hop hop same in
      subst (λ (s : List Stage). StepSuits s x) (sym step_is)
      (step_suits at.hop.step (typed.kinding.leaving n) (typed.kinding.waiting k) x (subst (λ (m : ℕ). StepGives at.hop.step (typed.kinding.leaving m) (typed.kinding.waiting k)) before_is typed_hop.step) h)
    where
      before_of : (a b : ℕ) (h g : Hop) → Waiting a h ≡ Waiting b g → a ≡ b
      before_of a b h g e = cc

  -- all ways out of a state suit what leaves it
  leaving_suits : (n : ℕ) (x : TupleView) → HasKinds (typed.kinding.leaving n) x → LeavingSuits net n x
  leaving_suits n x h =
      All-append (WaySuits net x) (map Into (edges_at net n)) (map Out (ends_at net n) ++ backs_by n (wait_at net n))
      (All-map (WaySuits net x) Into (edges_at net n) (All-weaker (Contains (edges_at net n)) (λ k. StepSuits (step_at net k) x) (into_suits n x h) (edges_at net n) (All-contains_itself (edges_at net n))))
      (All-append (WaySuits net x) (map Out (ends_at net n)) (backs_by n (wait_at net n))
      (All-map (WaySuits net x) Out (ends_at net n)
      (All-weaker (EndFits kinds (typed.kinding.leaving n)) (λ (e : End). StepSuits e.step x) (λ e fit. step_suits e.step (typed.kinding.leaving n) fit.0 x fit.1 h) (ends_at net n) (ends_typed n)))
      (backs (wait_at net n)))
    where
      back : (fold : Option Turn) → All (WaySuits net x) (backs_in n fold)
      back None = All-nil (WaySuits net x)
      back (Some turn) = All-cons (WaySuits net x) (Back n) [] tt (All-nil (WaySuits net x))

      backs : (o : Option Wait) → All (WaySuits net x) (backs_by n o)
      backs None = All-nil (WaySuits net x)
      backs (Some w) = back w.fold

  module _ (s : ℕ) (known : List Kind) (is : slice_get kinds s ≡ Some known) (r : TupleView) (h : HasKinds known r) where
    root_suits : (n : ℕ) → is_root_on net s n ≡ true → LeavingSuits net n r
    root_suits n e =
        let at = told s (root_at net n) e in
        leaving_suits n r (subst (λ (ks : List Kind). HasKinds ks r) (some_is known (typed.kinding.leaving n) (sym is ∙ root_typed kinds net typed.kinding typed.states n s at)) h)

    meeting_suits : (n : ℕ) → is_wait_on net s n ≡ true → MeetingSuits net (held stores) r n
    meeting_suits n e w at =
        let one = wait_typed kinds net typed.kinding typed.states n w at in
        let stream : w.stream ≡ s = some_is w.stream s (ap (option_map (λ (w : Wait). w.stream)) (sym at) ∙ told s (option_map (λ (w : Wait). w.stream) (wait_at net n)) e) in
        let event : HasKinds one.event r = subst (λ (ks : List Kind). HasKinds ks r) (some_is known one.event (sym is ∙ ap (slice_get kinds) (sym stream) ∙ one.known)) h in
        let rows : All (HasKinds one.event) (r ∷ []) = All-cons (HasKinds one.event) r [] event (All-nil (HasKinds one.event)) in
        let bs = typed.kinding.waiting n in
        let out = typed.kinding.leaving n in
        let mine = instances_typed n w at in
        let good = λ (i : Instance). HasKinds out i.tuple in
        let went : All good (took w.choose w.fold (r ∷ []) (held stores n)) = took_kinds w bs one.event out (held stores n) (r ∷ []) one.gives rows mine in
        record {
          instances = All-weaker (λ (i : Instance). HasKinds bs i.tuple) (λ (i : Instance). WaitSuits w i.tuple r) (λ i h. wait_suits w bs one.event out i.tuple r one.gives event h) (held stores n) mine;
          leaving =
              All-weaker good (λ (i : Instance). LeavingSuits net n i.tuple) (λ i h. leaving_suits n i.tuple h) (met w (held stores n) r)
              (subst (All good) (append-nil (met w (held stores n) r)) (All-permutation good (took w.choose w.fold (r ∷ []) (held stores n)) (met w (held stores n) r ++ []) (IsPermutation-sym _ _ (met_took w (held stores n) (r ∷ []))) went));
          key = event_fits one.event bs w.choose r one.gives.0 event;
        }

    -- a tuple of the stream's kinds is suited
    pub tuple_suits : TupleSuits net (held stores) s r
    tuple_suits = record {
      roots =
          All-flat_map (WaySuits net r) (ways_at net) (filter (is_root_on net s) (range_with_len 0 (length net)))
          (All-weaker (λ n. is_root_on net s n ≡ true) (λ n. LeavingSuits net n r) root_suits (filter (is_root_on net s) (range_with_len 0 (length net))) (filter_passes (is_root_on net s) (range_with_len 0 (length net))));
      waits = All-weaker (λ n. is_wait_on net s n ≡ true) (MeetingSuits net (held stores) r) meeting_suits (waits_on net s) (filter_passes (is_wait_on net s) (range_with_len 0 (length net)));
    }

  module _ (seen : Streams) (have : HaveKinds kinds seen) where
    -- what leaves a state has its kinds
    pub leaves_kinds : (n : ℕ) → All (λ (i : Instance). HasKinds (typed.kinding.leaving n) i.tuple) (leaving_state net seen (held stores) n)
    leaves_kinds n = go (entrance_at net n) refl
      where
        good : Instance → Type 0
        good i = HasKinds (typed.kinding.leaving n) i.tuple

        go : (o : Option Entrance) → entrance_at net n ≡ o → All good (leaving_state net seen (held stores) n)
        go None e = subst (All good) (sym (ap (λ (o : Option Entrance). leaving_by o seen (held stores n)) e)) (All-nil good)
        go (Some (Root s)) e =
            subst (All good) (sym (ap (λ (o : Option Entrance). leaving_by o seen (held stores n)) e))
            (All-map good begins (seen s) (have s (typed.kinding.leaving n) (root_typed kinds net typed.kinding typed.states n s (ap (option_and_then root_by) e))))
        go (Some (Waiting before hop)) e =
            let w = hop.wait in
            let at : wait_at net n ≡ Some w = ap (option_and_then wait_by) e in
            let one = wait_typed kinds net typed.kinding typed.states n w at in
            subst (All good) (sym (wait_leaves net seen (held stores) n w at))
            (took_kinds w (typed.kinding.waiting n) one.event (typed.kinding.leaving n) (held stores n) (seen w.stream) one.gives (have w.stream one.event one.known) (instances_typed n w at))

    -- and what the ends of a stream give has its kinds
    pub published_kinds : (s : ℕ) (known : List Kind) → slice_get kinds s ≡ Some known → All (HasKinds known) (given_by_ends net seen (held stores) s)
    published_kinds s known is =
        All-flat_map (HasKinds known) (given_by_ends_at net seen (held stores) s) (range_with_len 0 (length net)) (every (λ n. All (HasKinds known) (given_by_ends_at net seen (held stores) s n)) each (range_with_len 0 (length net)))
      where
        one : (n : ℕ) (e : End) → EndFits kinds (typed.kinding.leaving n) e → (e.out == s) ≡ true → All (HasKinds known) (given_by_end (leaving_state net seen (held stores) n) e)
        one n e fit out =
            subst (λ (ks : List Kind). All (HasKinds ks) (given_by_end (leaving_state net seen (held stores) n) e))
            (some_is fit.0 known (sym fit.2 ∙ ap (slice_get kinds) (same_number e.out s out) ∙ is))
            (passed_after (HasKinds fit.0) e (leaving_state net seen (held stores) n)
            (passed_kinds e.step (typed.kinding.leaving n) fit.0 (bindings_of (leaving_state net seen (held stores) n)) fit.1 (All-map (HasKinds (typed.kinding.leaving n)) (λ (i : Instance). i.tuple) (leaving_state net seen (held stores) n) (leaves_kinds n))))

        each : (n : ℕ) → All (HasKinds known) (given_by_ends_at net seen (held stores) s n)
        each n =
            All-flat_map (HasKinds known) (given_by_end (leaving_state net seen (held stores) n)) (filter (λ e. e.out == s) (ends_at net n))
            (λ k d lt. one n (get_or (filter (λ (e : End). e.out == s) (ends_at net n)) k d) (All-filter (λ (e : End). e.out == s) (EndFits kinds (typed.kinding.leaving n)) (ends_at net n) (ends_typed n) k d lt) (filter_passes (λ (e : End). e.out == s) (ends_at net n) k d lt))
