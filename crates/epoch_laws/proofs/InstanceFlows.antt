-- What flows along prefixes and lines as instances.
use Rattle.std.proofs.Common.{◌≡◌, ◌∙◌, sym, ap, refl, subst, ℕ, ◌<◌, ◌≤◌, ◌==◌, true, get_or, List, [], ◌∷◌, map, arith}
use Rattle.std.specs.Prelude.{Option, Some, None}
use Rattle.std.specs.List.{All, cons_option, filter, filter_map, flat_map}
use Rattle.std.proofs.lemmas.List.Elements.{filter_passes, All-nil, All-filter, All-map, All-weaker}
use Rattle.std.proofs.lemmas.List.Folds.{flat_map-map}
use Rattle.event_types.specs.Tuple.{TupleView}
use Rattle.instances.specs.declared.instance.Instance.{Instance}
use Rattle.semantics.specs.Denotation.{Streams, matches}
use Rattle.semantics.specs.Programs.{with_stream}
use Rattle.semantics.specs.Runs.{runs}
use Rattle.semantics.specs.Scalars.{Pr}
use Rattle.semantics.proofs.ListLemmas.{filter-map}
use Rattle.semantics.proofs.ReportLemmas.{filter_all, flat_map_same}
use Rattle.automaton.specs.Flow.{derived, entering, flow, given, leaving}
use Rattle.automaton.specs.Prefixes.{Prefix, Root, After, path}
use Rattle.automaton.specs.Steps.{pass}
use Rattle.automaton.specs.Waits.{chosen}
use Rattle.automaton.specs.Work.{completed}
use Rattle.automaton.specs.declared.line.Hop.{Hop}
use Rattle.automaton.specs.declared.line.Line.{Line}
use Rattle.automaton.specs.declared.wait.Turn.{Turn}
use Rattle.semantics.specs.Births.{is_after, streams_after}
use Rattle.instances.specs.Births.{began_after}
use Rattle.epoch_laws.specs.Births.{AreSound}
use Rattle.epoch_laws.specs.BornLines.{BornLine, unborn}
use Rattle.epoch_laws.specs.InstanceFlow.{completed_after, derived_after, each, flow_instances, given_after}
use Rattle.epoch_laws.specs.Instances.{began, begins, bindings_of}
use Rattle.epoch_laws.proofs.Bindings.{begins_bindings}
use Rattle.epoch_laws.proofs.Births.{after_on, chosen_after, chosen_later}
use Rattle.epoch_laws.proofs.Each.{IsEach, each_after, each_bindings, each_gives, each_passes, each_passing, each_same, each_twice}
use Rattle.epoch_laws.proofs.Flows.{Timed, pass_timed}
use Rattle.epoch_laws.proofs.Lists.{All-flat_map, every}

-- what is chosen for bindings is chosen for each of them
pub each_chosen : (p : List Pr) (turn : Option Turn) (rs : List TupleView) → IsEach (chosen p turn rs)
each_chosen p None rs = each_gives (matches p rs)
each_chosen p (Some t) rs = each_gives (runs p t.on t.set.parts rs)

-- so is what leaves a hop
pub each_leaving : (h : Hop) (env : Streams) → IsEach (leaving h env)
each_leaving h env = each_twice (entering h) (chosen h.wait.choose h.wait.fold (env h.wait.stream)) (each_passes (pass h.step)) (each_chosen h.wait.choose h.wait.fold (env h.wait.stream))

-- the tuples of the instances that flow are those that flow
pub instances_flow : (env : Streams) (p : Prefix) → bindings_of (flow_instances env p) ≡ flow env p
instances_flow env (Root s) = begins_bindings (env s)
instances_flow env (After p h) = each_bindings (leaving h env) (each_leaving h env) (flow_instances env p) ∙ ap (leaving h env) (instances_flow env p)

-- nothing is chosen for no binding
chosen_none : (p : List Pr) (turn : Option Turn) (rs : List TupleView) → chosen p turn rs [] ≡ []
chosen_none p None rs = refl
chosen_none p (Some t) rs = refl

-- an instance began no later than its tuple was detected
abbrev BeganBy : Instance → Type 0
BeganBy instance = instance.first ≤ instance.tuple.at

module _ (env : Streams) (sound : AreSound env) where
  -- what leaves a hop of a tuple is detected after it
  leaving_later : (h : Hop) (t : TupleView) → All (λ u. t.at < u.at) (leaving h env (t ∷ []))
  leaving_later h t = go (pass h.step t) (pass_timed h.step t)
    where
      go : (o : Option TupleView) → Timed t o → All (λ u. t.at < u.at) (chosen h.wait.choose h.wait.fold (env h.wait.stream) (cons_option o []))
      go None timed = subst (λ us. All (λ u. t.at < u.at) us) (sym (chosen_none h.wait.choose h.wait.fold (env h.wait.stream))) (All-nil (λ u. t.at < u.at))
      go (Some b) timed =
          subst (λ at. All (λ u. at < u.at) (chosen h.wait.choose h.wait.fold (env h.wait.stream) (b ∷ []))) timed.0
          (chosen_later h.wait.choose (env h.wait.stream) (sound h.wait.stream) h.wait.fold b)

  -- what flows began no later than it was detected
  flow_began : (p : Prefix) → All BeganBy (flow_instances env p)
  flow_began (Root s) = All-map BeganBy begins (env s) (every (λ t. t.at ≤ t.at) (λ t. omega arith) (env s))
  flow_began (After p h) =
      All-flat_map BeganBy (λ (i : Instance). map (began i.first) (leaving h env (i.tuple ∷ []))) (flow_instances env p)
      (All-weaker BeganBy (λ (i : Instance). All BeganBy (map (began i.first) (leaving h env (i.tuple ∷ [])))) one (flow_instances env p) (flow_began p))
    where
      one : (i : Instance) → BeganBy i → All BeganBy (map (began i.first) (leaving h env (i.tuple ∷ [])))
      one i by =
          All-map BeganBy (began i.first) (leaving h env (i.tuple ∷ []))
          (All-weaker (λ u. i.tuple.at < u.at) (λ u. i.first ≤ u.at) (λ u later. omega (arith, later, by)) (leaving h env (i.tuple ∷ [])) (leaving_later h i.tuple))

  module _ (birth : Option ℕ) where
    -- of a tuple after the birth there leaves a hop what leaves it over the streams cut there
    leaving_after : (h : Hop) (t : TupleView) → is_after birth t.at ≡ true → leaving h env (t ∷ []) ≡ leaving h (streams_after birth env) (t ∷ [])
    leaving_after h t late = go (pass h.step t) (pass_timed h.step t)
      where
        go : (o : Option TupleView) → Timed t o
            → chosen h.wait.choose h.wait.fold (env h.wait.stream) (cons_option o []) ≡ chosen h.wait.choose h.wait.fold (streams_after birth env h.wait.stream) (cons_option o [])
        go None timed = chosen_none h.wait.choose h.wait.fold (env h.wait.stream) ∙ sym (chosen_none h.wait.choose h.wait.fold (streams_after birth env h.wait.stream))
        go (Some b) timed = chosen_after h.wait.choose (env h.wait.stream) (sound h.wait.stream) birth h.wait.fold b (ap (is_after birth) timed.0 ∙ late)

    -- what flows and began after the birth is detected after it
    flow_late : (p : Prefix) → All (λ (i : Instance). is_after birth i.tuple.at ≡ true) (began_after birth (flow_instances env p))
    flow_late p i d lt =
        late (get_or (began_after birth (flow_instances env p)) i d) (All-filter (λ (j : Instance). is_after birth j.first) BeganBy (flow_instances env p) (flow_began p) i d lt)
        (filter_passes (λ (j : Instance). is_after birth j.first) (flow_instances env p) i d lt)
      where
        late : (j : Instance) → BeganBy j → is_after birth j.first ≡ true → is_after birth j.tuple.at ≡ true
        late j by e = after_on birth j.first j.tuple.at by e

    -- what began after the birth flows over the streams cut there
    pub later_flow : (p : Prefix) → began_after birth (flow_instances env p) ≡ flow_instances (streams_after birth env) p
    later_flow (Root s) = filter-map (λ (i : Instance). is_after birth i.first) begins (env s)
    later_flow (After p h) =
        each_after birth (leaving h env) (flow_instances env p)
        ∙ each_same (λ (i : Instance). is_after birth i.tuple.at ≡ true) (leaving h env) (leaving h (streams_after birth env)) (λ i late. leaving_after h i.tuple late) (began_after birth (flow_instances env p)) (flow_late p)
        ∙ ap (each (leaving h (streams_after birth env))) (later_flow p)

  -- a line gives after its birth what it gives over the streams cut there
  pub given_later : (b : BornLine) → given_after env b ≡ given (streams_after b.birth env) b.line
  given_later b =
      ap (λ xs. bindings_of (began_after b.birth xs)) (sym (each_passing b.line.last (flow_instances env (path b.line))))
      ∙ ap bindings_of (each_after b.birth (filter_map (pass b.line.last)) (flow_instances env (path b.line)) ∙ ap (each (filter_map (pass b.line.last))) (later_flow b.birth (path b.line)))
      ∙ each_bindings (filter_map (pass b.line.last)) (each_passes (pass b.line.last)) (flow_instances (streams_after b.birth env) (path b.line))
      ∙ ap (filter_map (pass b.line.last)) (instances_flow (streams_after b.birth env) (path b.line))

  -- and so do all lines of a stream
  pub born_lines : (lines : List BornLine) (s : ℕ) → derived_after lines env s ≡ flat_map (λ b. given (streams_after b.birth env) b.line) (filter (λ b. b.line.out == s) lines)
  born_lines lines s =
      flat_map_same (given_after env) (λ b. given (streams_after b.birth env) b.line) (filter (λ b. b.line.out == s) lines)
      (every (λ b. given_after env b ≡ given (streams_after b.birth env) b.line) given_later (filter (λ b. b.line.out == s) lines))

-- without a birth a line gives what it gives
given_unborn : (env : Streams) (l : Line) → given_after env (unborn l) ≡ given env l
given_unborn env l =
    ap (λ xs. bindings_of (began_after None xs)) (sym (each_passing l.last (flow_instances env (path l))))
    ∙ ap bindings_of (filter_all (λ (i : Instance). is_after None i.first) (each (filter_map (pass l.last)) (flow_instances env (path l)))
    (every (λ (i : Instance). is_after None i.first ≡ true) (λ i. refl) (each (filter_map (pass l.last)) (flow_instances env (path l)))))
    ∙ each_bindings (filter_map (pass l.last)) (each_passes (pass l.last)) (flow_instances env (path l))
    ∙ ap (filter_map (pass l.last)) (instances_flow env (path l))

-- and so do all lines of a stream
unborn_derived : (lines : List Line) (env : Streams) (s : ℕ) → derived_after (map unborn lines) env s ≡ derived lines env s
unborn_derived lines env s =
    ap (flat_map (given_after env)) (filter-map (λ b. b.line.out == s) unborn lines)
    ∙ flat_map-map (given_after env) unborn (filter (λ l. l.out == s) lines)
    ∙ flat_map_same (λ l. given_after env (unborn l)) (given env) (filter (λ l. l.out == s) lines)
    (every (λ l. given_after env (unborn l) ≡ given env l) (given_unborn env) (filter (λ l. l.out == s) lines))

-- and the streams are those of the lines
pub unborn_lines : (lines : List Line) (order : List ℕ) (env : Streams) → completed_after (map unborn lines) order env ≡ completed lines order env
unborn_lines lines [] env = refl
unborn_lines lines (s ∷ order) env =
    ap (λ rows. completed_after (map unborn lines) order (with_stream env s rows)) (unborn_derived lines env s) ∙ unborn_lines lines order (with_stream env s (derived lines env s))
