-- One epoch along prefixes, as instances.
use Rattle.std.proofs.Common.{◌≡◌, ◌∙◌, sym, ap, refl, subst, ℕ, ◌≤◌, ◌==◌, nat_lt, List, [], ◌∷◌, ◌++◌}
use Rattle.std.specs.Prelude.{Option, Some, None}
use Rattle.std.specs.List.{All, filter, filter_map, flat_map}
use Rattle.std.specs.List.Sorted.{IsPermutation}
use Rattle.std.proofs.lemmas.List.Elements.{All-nil, All-cons}
use Rattle.std.proofs.lemmas.List.Sorted.{IsPermutation-trans, IsPermutation-append_right}
use Rattle.event_types.specs.Tuple.{TupleView}
use Rattle.instances.specs.declared.instance.Instance.{Instance}
use Rattle.semantics.specs.Births.{streams_after}
use Rattle.semantics.specs.Denotation.{Streams}
use Rattle.semantics.specs.Runs.{runs}
use Rattle.semantics.specs.Scalars.{Pr}
use Rattle.scalar_expr.proofs.Bags.{permuted_to}
use Rattle.automaton.specs.Flow.{entering, flow, leaving}
use Rattle.automaton.specs.Prefixes.{Prefix, Root, After, path}
use Rattle.automaton.specs.Steps.{pass}
use Rattle.automaton.specs.Waiting.{entered, waiting, waiting_in, waits}
use Rattle.automaton.specs.Waits.{chosen}
use Rattle.automaton.specs.declared.line.Hop.{Hop}
use Rattle.automaton.specs.declared.step.Stage.{Stage}
use Rattle.automaton.specs.declared.wait.Turn.{Turn}
use Rattle.instances.specs.Births.{began_after}
use Rattle.epoch_laws.specs.Births.{passing_after}
use Rattle.epoch_laws.specs.BornLines.{BornLine}
use Rattle.epoch_laws.specs.Epochs.{again, is_unmet, stepped, taken, took, unmatched_after}
use Rattle.epoch_laws.specs.InstanceFlow.{each, flow_instances, given_after, waiting_behind, waiting_instances}
use Rattle.epoch_laws.specs.Instances.{bindings_of, instances_entering, pass_instance}
use Rattle.epoch_laws.specs.Lines.{flow_now, given_now}
use Rattle.epoch_laws.specs.Times.{ArePast, IsPast, before, during, streams_before, streams_during}
use Rattle.epoch_laws.proofs.Each.{IsEach, Made, each_after, each_alike, each_begins, each_bindings, each_each, each_gives, each_keeps, each_kept, each_parts, each_passes, each_passing, each_same, each_took, each_twice}
use Rattle.epoch_laws.proofs.Flows.{flow_past, pass_cut, pass_past}
use Rattle.epoch_laws.proofs.Folds.{sound_past}
use Rattle.epoch_laws.proofs.InstanceFlows.{each_leaving, instances_flow, later_flow}
use Rattle.epoch_laws.proofs.Lists.{flat_map_each, map_all}
use Rattle.epoch_laws.proofs.Purges.{rest_of}
use Rattle.epoch_laws.proofs.Waits.{chosen_before, few_of, rows_give, rows_keep}

-- the bindings that wait are those of each that entered
each_entered : (p : List Pr) (turn : Option Turn) (rs : List TupleView) → IsEach (entered p turn rs)
each_entered p None rs = flat_map_each
each_entered p (Some t) rs = each_gives (λ b. b ∷ runs p t.on t.set.parts rs b)

each_waiting_in : (p : List Pr) (turn : Option Turn) (rs : List TupleView) → IsEach (waiting_in p turn rs)
each_waiting_in p turn rs = each_twice (entered p turn rs) (filter (waits p rs)) (each_entered p turn rs) (each_keeps (waits p rs))

each_waiting : (h : Hop) (env : Streams) → IsEach (waiting_behind h env)
each_waiting h env = each_twice (entering h) (waiting_in h.wait.choose h.wait.fold (env h.wait.stream)) (each_passes (pass h.step)) (each_waiting_in h.wait.choose h.wait.fold (env h.wait.stream))

-- the tuples of the instances that wait are those that wait
pub instances_wait : (env : Streams) (p : Prefix) (h : Hop) → bindings_of (waiting_instances env p h) ≡ waiting env p h
instances_wait env p h = each_bindings (waiting_behind h env) (each_waiting h env) (flow_instances env p) ∙ ap (waiting_behind h env) (instances_flow env p)

module _ (time : ℕ) (env : Streams) (past : ArePast time env) where
  abbrev now : Streams
  now = streams_during time env

  abbrev early : Streams
  early = streams_before time env

  abbrev IsOld : Instance → Type 0
  IsOld instance = IsPast time instance.tuple

  -- what flows is past
  old_flow : (p : Prefix) → All IsOld (flow_instances env p)
  old_flow p = map_all (IsPast time) (λ (i : Instance). i.tuple) (flow_instances env p) (subst (λ ts. All (IsPast time) ts) (sym (instances_flow env p)) (flow_past time env past p))

  -- what leaves a hop is cut as the tuples are
  leaving_before : (h : Hop) (ts : List TupleView) → before time (leaving h env ts) ≡ leaving h early (before time ts)
  leaving_before h ts =
      chosen_before time h.wait.choose (env h.wait.stream) (sound_past time (env h.wait.stream) (past h.wait.stream)) h.wait.fold (entering h ts)
      ∙ ap (chosen h.wait.choose h.wait.fold (before time (env h.wait.stream))) (pass_cut (λ at. nat_lt at time) h.step ts)

  -- what flows as instances is cut as the streams are
  flow_before : (p : Prefix) → each (before time) (flow_instances env p) ≡ flow_instances early p
  flow_before (Root s) = each_begins (λ t. nat_lt t.at time) (env s)
  flow_before (After p h) =
      each_each (leaving h env) (before time) (each_keeps (λ t. nat_lt t.at time)) (flow_instances env p)
      ∙ each_same (λ _. Unit {0}) (λ ts. before time (leaving h env ts)) (λ ts. leaving h early (before time ts)) (λ i _. leaving_before h (i.tuple ∷ [])) (flow_instances env p) (λ _ _ _. tt)
      ∙ sym (each_each (before time) (leaving h early) (each_leaving h early) (flow_instances env p))
      ∙ ap (each (leaving h early)) (flow_before p)

  module _ (h : Hop) where
    abbrev turn : Option Turn
    turn = h.wait.fold

    abbrev choose : List Pr
    choose = h.wait.choose

    abbrev new : List TupleView
    new = now h.wait.stream

    -- what waited before the epoch, of what comes to the hop
    abbrev stood : Made
    stood ts = waiting_in choose turn (before time (env h.wait.stream)) (before time (entering h ts))

    -- what stays of that, what enters in the epoch, and what goes back
    abbrev rest : Made
    rest ts = rest_of choose new (stood ts)

    abbrev comes : Made
    comes ts = during time (entering h ts)

    abbrev back : Made
    back ts = again turn (flat_map (taken choose turn new) (stood ts))

    stood_is : (ts : List TupleView) → stood ts ≡ waiting_behind h early (before time ts)
    stood_is ts = ap (waiting_in choose turn (before time (env h.wait.stream))) (pass_cut (λ at. nat_lt at time) h.step ts)

    one_past : (t : TupleView) → IsPast time t → All (IsPast time) (entering h (t ∷ []))
    one_past t is = pass_past time h.step (t ∷ []) (All-cons (IsPast time) t [] is (All-nil (IsPast time)))

    few : (t : TupleView) → IsPast time t → All (λ l. l.at ≤ time) (entering h (t ∷ []))
    few t is = few_of time (entering h (t ∷ [])) (one_past t is)

    -- the instances that waited before the epoch
    stood_each : (p : Prefix) → each stood (flow_instances env p) ≡ waiting_instances early p h
    stood_each p =
        each_same (λ _. Unit {0}) stood (λ ts. waiting_behind h early (before time ts)) (λ i _. stood_is (i.tuple ∷ [])) (flow_instances env p) (λ _ _ _. tt)
        ∙ sym (each_each (before time) (waiting_behind h early) (each_waiting h early) (flow_instances env p))
        ∙ ap (each (waiting_behind h early)) (flow_before p)

    -- what is taken from them
    took_each : (p : Prefix) → each (λ ts. flat_map (taken choose turn new) (stood ts)) (flow_instances env p) ≡ took choose turn new (waiting_instances early p h)
    took_each p =
        sym (each_each stood (flat_map (taken choose turn new)) (each_gives (taken choose turn new)) (flow_instances env p))
        ∙ ap (each (flat_map (taken choose turn new))) (stood_each p)
        ∙ each_took choose turn new (waiting_instances early p h)

  -- what flows in the epoch comes from what waited before it
  pub flow_gives : (p : Prefix) → each (during time) (flow_instances env p) ≡ flow_now now early p
  flow_gives (Root s) = each_begins (λ t. t.at == time) (env s)
  flow_gives (After p h) =
      each_each (leaving h env) (during time) (each_keeps (λ t. t.at == time)) (flow_instances env p)
      ∙ each_same IsOld (λ ts. during time (leaving h env ts)) (λ ts. flat_map (taken h.wait.choose h.wait.fold (now h.wait.stream)) (stood h ts))
      (λ i is. rows_give time h.wait.choose h.wait.fold (env h.wait.stream) (entering h (i.tuple ∷ [])) (past h.wait.stream) (few h i.tuple is)) (flow_instances env p) (old_flow p)
      ∙ took_each h p

  -- what waits after it
  pub state_keeps : (p : Prefix) (h : Hop)
      → IsPermutation (waiting_instances env p h) (stepped h.wait.choose h.wait.fold (now h.wait.stream) (instances_entering h (flow_now now early p)) (waiting_instances early p h))
  state_keeps p h =
      IsPermutation-trans _ _ _
      (each_alike IsOld (waiting_behind h env) (λ ts. rest h ts ++ (comes h ts ++ back h ts))
      (λ i is. rows_keep time (choose h) (turn h) (env h.wait.stream) (entering h (i.tuple ∷ [])) (past h.wait.stream) (few h i.tuple is)) (flow_instances env p) (old_flow p))
      (IsPermutation-trans _ _ _
      (each_parts (rest h) (λ ts. comes h ts ++ back h ts) (flow_instances env p))
      (permuted_to
      (IsPermutation-append_right (each (rest h) (flow_instances env p)) (each (λ ts. comes h ts ++ back h ts) (flow_instances env p)) (each (comes h) (flow_instances env p) ++ each (back h) (flow_instances env p)) (each_parts (comes h) (back h) (flow_instances env p)))
      (λ i. rest_is i ++ (comes_is i ++ back_is i))))
    where
      rest_is : each (rest h) (flow_instances env p) ≡ unmatched_after (choose h) (new h) (waiting_instances early p h)
      rest_is =
          sym (each_each (stood h) (filter (is_unmet (choose h) (new h))) (each_keeps (is_unmet (choose h) (new h))) (flow_instances env p))
          ∙ ap (each (filter (is_unmet (choose h) (new h)))) (stood_each h p)
          ∙ each_kept (is_unmet (choose h) (new h)) (waiting_instances early p h)

      comes_is : each (comes h) (flow_instances env p) ≡ instances_entering h (flow_now now early p)
      comes_is =
          each_same (λ _. Unit {0}) (λ ts. during time (entering h ts)) (λ ts. entering h (during time ts)) (λ i _. pass_cut (λ at. at == time) h.step (i.tuple ∷ [])) (flow_instances env p) (λ _ _ _. tt)
          ∙ sym (each_each (during time) (entering h) (each_passes (pass h.step)) (flow_instances env p))
          ∙ ap (each (entering h)) (flow_gives p)
          ∙ each_passing h.step (flow_now now early p)

      back_is : each (back h) (flow_instances env p) ≡ again (turn h) (took (choose h) (turn h) (new h) (waiting_instances early p h))
      back_is = go (turn h) (took_each h p)
        where
          nothing : (xs : List Instance) → each (λ _. []) xs ≡ []
          nothing [] = refl
          nothing (x ∷ xs) = nothing xs

          go : (t : Option Turn) → each (λ ts. flat_map (taken (choose h) (turn h) (new h)) (stood h ts)) (flow_instances env p) ≡ took (choose h) (turn h) (new h) (waiting_instances early p h)
              → each (λ ts. again t (flat_map (taken (choose h) (turn h) (new h)) (stood h ts))) (flow_instances env p) ≡ again t (took (choose h) (turn h) (new h) (waiting_instances early p h))
          go None is = nothing (flow_instances env p)
          go (Some t) is = is

  -- what is given in the epoch
  passing_now : (step : List Stage) (birth : Option ℕ) (xs : List Instance) → during time (passing_after step birth xs) ≡ passing_after step birth (each (during time) xs)
  passing_now step birth xs =
      sym (each_bindings (during time) (each_keeps (λ t. t.at == time)) (began_after birth (filter_map (pass_instance step) xs)))
      ∙ ap bindings_of (sym (each_after birth (during time) (filter_map (pass_instance step) xs)) ∙ ap (began_after birth) through)
    where
      through : each (during time) (filter_map (pass_instance step) xs) ≡ filter_map (pass_instance step) (each (during time) xs)
      through =
          ap (each (during time)) (sym (each_passing step xs))
          ∙ each_each (filter_map (pass step)) (during time) (each_keeps (λ t. t.at == time)) xs
          ∙ each_same (λ _. Unit {0}) (λ ts. during time (filter_map (pass step) ts)) (λ ts. filter_map (pass step) (during time ts)) (λ i _. pass_cut (λ at. at == time) step (i.tuple ∷ [])) xs (λ _ _ _. tt)
          ∙ sym (each_each (during time) (filter_map (pass step)) (each_passes (pass step)) xs)
          ∙ each_passing step (each (during time) xs)

  -- what a line gives in the epoch after its birth
  pub line_gives : (b : BornLine) → during time (given_after env b) ≡ given_now now early b
  line_gives b = passing_now b.line.last b.birth (flow_instances env (path b.line)) ∙ ap (passing_after b.line.last b.birth) (flow_gives (path b.line))

  -- what flows in the epoch without the times at which it began
  pub flow_bindings : (p : Prefix) → bindings_of (flow_now now early p) ≡ during time (flow env p)
  flow_bindings p = ap bindings_of (sym (flow_gives p)) ∙ each_bindings (during time) (each_keeps (λ t. t.at == time)) (flow_instances env p) ∙ ap (during time) (instances_flow env p)

  -- and what of it began after a birth is what flows in the epoch over the streams cut there
  pub cut_bindings : (birth : Option ℕ) (p : Prefix) → bindings_of (began_after birth (flow_now now early p)) ≡ during time (flow (streams_after birth env) p)
  cut_bindings birth p =
      ap (λ xs. bindings_of (began_after birth xs)) (sym (flow_gives p))
      ∙ ap bindings_of (each_after birth (during time) (flow_instances env p))
      ∙ each_bindings (during time) (each_keeps (λ t. t.at == time)) (began_after birth (flow_instances env p))
      ∙ ap (λ xs. during time (bindings_of xs)) (later_flow env (λ s. sound_past time (env s) (past s)) birth p)
      ∙ ap (during time) (instances_flow (streams_after birth env) p)
