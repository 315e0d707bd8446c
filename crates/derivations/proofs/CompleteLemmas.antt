-- Each derivation of a tuple is listed.
use Rattle.std.proofs.Common.{◌≡◌, sym, ap, refl, subst, ℕ, zero, suc, ◌+◌, ◌<◌, ◌≤◌, ◌==◌, Bool, true, false, cond, length, List, [], ◌∷◌, ◌++◌, map, arith}
use Rattle.std.specs.Prelude.{Contains, Option, Some, None, slice_get}
use Rattle.std.specs.List.{All}
use Rattle.std.proofs.lemmas.List.{length-map}
use Rattle.std.proofs.lemmas.List.Elements.{All-contains, Contains-append_left, Contains-append_right}
use Rattle.event_types.specs.declared.kind.Kind.{Kind}
use Rattle.event_types.specs.Tuple.{IsSound, TupleView}
use Rattle.event_types.proofs.NumberLemmas.{is_below, is_same}
use Rattle.semantics.specs.Scalars.{Pr, Projection}
use Rattle.semantics.specs.Truth.{all_true}
use Rattle.semantics.specs.Nexts.{nexts}
use Rattle.semantics.specs.Runs.{goers, rebound}
use Rattle.semantics.specs.Denotation.{denote}
use Rattle.semantics.specs.Expressions.{Ex, Read, Select, Next, Fold}
use Rattle.semantics.specs.Histories.{Event}
use Rattle.semantics.specs.Programs.{IsUnborn, Program, env}
use Rattle.semantics.specs.TypedPrograms.{IsProgram}
use Rattle.scalar_expr.proofs.RunsLemmas.{count, count_most, fewer, Fewer, goers_start_later}
use Rattle.algebra.proofs.SoundLemmas.{denote_sound}
use Rattle.derivations.specs.Derivation.{Derivation, Derivations, listed}
use Rattle.derivations.specs.Derivation as the
use Rattle.derivations.specs.DerivedTuples.{DerivedTuple, Run, as_read, begun_by, derived_fold, derived_goers, derived_join, derived_matches, derived_nexts, derived_runs, derived_runs_within, derived_selected, going_on, tuples_in}
use Rattle.derivations.specs.DerivedPrograms.{derived_env, derived_heard}
use Rattle.derivations.specs.Derives.{Derives, IsEventAt, IsPublished, Iterates}
use Rattle.derivations.specs.Derives as row
use Rattle.derivations.proofs.ListLemmas.{filter_in, first_in, flat_map_in, later_in, map_in}
use Rattle.derivations.proofs.NextLemmas.{found_goer, found_next}
use Rattle.derivations.proofs.ProgramLemmas.{declared_derived, env_sound, published_derived}
use Rattle.derivations.proofs.SoundLemmas.{found_denoted, found_of, not_declared}

-- an event of a stream is listed with its place
heard_in : (place : ℕ) (history : List Event) (stream index : ℕ) (tuple : TupleView) → slice_get history index ≡ Some (record { stream = stream; tuple = tuple })
    → Contains (derived_heard place history stream) (record { tuple = tuple; by = the.Event (place + index) })
heard_in place [] stream index tuple at = absurd (let none : None ≡ Some (record { stream = stream; tuple = tuple }) = at in cc)
heard_in place (event ∷ later) stream zero tuple at =
    subst (λ (b : Bool). Contains (cond b (first ∷ []) [] ++ rest) wanted) (sym (is_same event.stream stream (ap stream_or at))) (subst (Contains (first ∷ rest)) same (first_in first rest))
  where
    rest : List DerivedTuple
    rest = derived_heard (place + 1) later stream

    first : DerivedTuple
    first = record { tuple = event.tuple; by = the.Event place }

    wanted : DerivedTuple
    wanted = record { tuple = tuple; by = the.Event (place + 0) }

    stream_or : Option Event → ℕ
    stream_or None = 0
    stream_or (Some e) = e.stream

    tuple_or : Option Event → TupleView
    tuple_or None = event.tuple
    tuple_or (Some e) = e.tuple

    same : first ≡ wanted
    same = let sum : place ≡ place + 0 = omega arith in λ i. record { tuple = ap tuple_or at i; by = the.Event (sum i) }
heard_in place (event ∷ later) stream (suc index) tuple at = go (event.stream == stream) (heard_in (place + 1) later stream index tuple at)
  where
    rest : List DerivedTuple
    rest = derived_heard (place + 1) later stream

    first : DerivedTuple
    first = record { tuple = event.tuple; by = the.Event place }

    go : (b : Bool) → Contains rest (record { tuple = tuple; by = the.Event (place + 1 + index) }) → Contains (cond b (first ∷ []) [] ++ rest) (record { tuple = tuple; by = the.Event (place + suc index) })
    go b has =
        let sum : place + 1 + index ≡ place + suc index = omega arith in
        let moved = subst (λ n. Contains rest (record { tuple = tuple; by = the.Event n })) sum has in
        step b moved
      where
        step : (c : Bool) → Contains rest (record { tuple = tuple; by = the.Event (place + suc index) }) → Contains (cond c (first ∷ []) [] ++ rest) (record { tuple = tuple; by = the.Event (place + suc index) })
        step true one = later_in first rest (record { tuple = tuple; by = the.Event (place + suc index) }) one
        step false one = one

module _ (kinds : ℕ → List Kind) (program : Program) (history : List Event) (typed : IsProgram kinds program) (unborn : All IsUnborn program.queries) (sound : All (λ event. IsSound event.tuple) history) where
  -- what an expression gives over the program's streams
  abbrev found : Ex → List DerivedTuple
  found e = found_of kinds program history typed unborn e

  -- it is listed
  abbrev Lists : Ex → Derivation → TupleView → Type 0
  Lists e by tuple = Contains (found e) (record { tuple = tuple; by = by })

  -- a run of some events is listed among those of at most so many
  pub record RunIsIn (most : ℕ) (p q : List Pr) (m : Projection) (f : Ex) (binding : TupleView) (all_by : Derivations) (tuple : TupleView) : Type 0 where
    pub run : Run
    pub there : Contains (derived_runs_within most p q m.parts (found f) binding) run
    pub events_are : listed run.events ≡ all_by
    pub tuple_is : run.tuple ≡ tuple

  -- the tuples of an expression are sound
  found_sound : (f : Ex) → All IsSound (tuples_in (found f))
  found_sound f = subst (All IsSound) (sym (found_denoted kinds program history typed unborn f)) (denote_sound (env program history) (env_sound program history sound) f)

  -- behind an event with which an iteration goes on fewer tuples start
  fewer_behind : (p q : List Pr) (f : Ex) (binding event : TupleView) → Contains (goers p q (denote f (env program history)) binding) event → (by : Derivation) → Lists f by event
      → count event.at (tuples_in (found f)) < count binding.at (tuples_in (found f))
  fewer_behind p q f binding event goes by has =
      let tuples = tuples_in (found f) in
      let there = map_in (λ (x : DerivedTuple). x.tuple) (found f) (record { tuple = event; by = by }) has in
      let less = All-contains (Fewer binding.at tuples) tuples event (fewer binding.at tuples (found_sound f)) there in
      let behind : binding.at < event.from = All-contains (λ r. binding.at < r.from) (goers p q (denote f (env program history)) binding) event (goers_start_later p q (denote f (env program history)) binding) goes in
      less.1 behind

  -- the event of an iteration is among the goers
  goer_in : (p q : List Pr) (f : Ex) (binding event : TupleView) (by : Derivation) → Contains (goers p q (denote f (env program history)) binding) event → Lists f by event → Contains (derived_goers p q (found f) binding) (record { tuple = event; by = by })
  goer_in p q f binding event by goes has =
      found_goer p q (found f) binding (record { tuple = event; by = by }) has (subst (λ (tuples : List TupleView). Contains (goers p q tuples binding) event) (sym (found_denoted kinds program history typed unborn f)) goes)

  -- the runs that begin with an event
  abbrev branch : ℕ → List Pr → List Pr → Projection → Ex → TupleView → DerivedTuple → List Run
  branch most p q m f binding x = record { tuple = rebound m.parts binding x.tuple; events = x.by ∷ [] } ∷ map (begun_by x.by) (derived_runs_within most p q m.parts (found f) (rebound m.parts binding x.tuple))

  -- a run of one event
  last_in : (most : ℕ) (p q : List Pr) (m : Projection) (f : Ex) (by : Derivation) (binding event tuple : TupleView) → count binding.at (tuples_in (found f)) ≤ most
      → Contains (goers p q (denote f (env program history)) binding) event → Lists f by event → tuple ≡ rebound m.parts binding event → RunIsIn most p q m f binding (the.More by the.None) tuple
  last_in zero p q m f by binding event tuple few goes has is = absurd (let less = fewer_behind p q f binding event goes by has in omega (arith, less, few))
  last_in (suc most) p q m f by binding event tuple few goes has is =
      let x : DerivedTuple = record { tuple = event; by = by } in
      let one : Run = record { tuple = rebound m.parts binding event; events = by ∷ [] } in
      record {
        run = one;
        there = flat_map_in (branch most p q m f binding) (derived_goers p q (found f) binding) x one (goer_in p q f binding event by goes has) (first_in one (map (begun_by by) (derived_runs_within most p q m.parts (found f) (rebound m.parts binding event))));
        events_are = refl;
        tuple_is = sym is;
      }

  -- a run of one event and the events of another run
  more_in : (most : ℕ) (p q : List Pr) (m : Projection) (f : Ex) (by : Derivation) (later : Derivations) (binding event tuple : TupleView) → count binding.at (tuples_in (found f)) ≤ most
      → Contains (goers p q (denote f (env program history)) binding) event → Lists f by event
      → ((n : ℕ) → count event.at (tuples_in (found f)) ≤ n → RunIsIn n p q m f (rebound m.parts binding event) later tuple) → RunIsIn most p q m f binding (the.More by later) tuple
  more_in zero p q m f by later binding event tuple few goes has rest = absurd (let less = fewer_behind p q f binding event goes by has in omega (arith, less, few))
  more_in (suc most) p q m f by later binding event tuple few goes has rest =
      let x : DerivedTuple = record { tuple = event; by = by } in
      let one : Run = record { tuple = rebound m.parts binding event; events = by ∷ [] } in
      let runs = derived_runs_within most p q m.parts (found f) (rebound m.parts binding event) in
      let less = fewer_behind p q f binding event goes by has in
      let enough : count event.at (tuples_in (found f)) ≤ most = omega (arith, less, few) in
      let more = rest most enough in
      record {
        run = begun_by by more.run;
        there = flat_map_in (branch most p q m f binding) (derived_goers p q (found f) binding) x (begun_by by more.run) (goer_in p q f binding event by goes has)
            (later_in one (map (begun_by by) runs) (begun_by by more.run) (map_in (begun_by by) runs more.run more.there));
        events_are = ap (the.More by) more.events_are;
        tuple_is = more.tuple_is;
      }

  -- an event that is read
  event_in : (stream place : ℕ) (tuple : TupleView) → IsEventAt program history stream place tuple → Lists (Read stream) (the.Event place) tuple
  event_in stream place tuple at =
      let sum : 1 + at.index ≡ place = (let counted = at.counted in omega (arith, counted)) in
      let there = subst (λ n. Contains (derived_heard 1 history stream) (record { tuple = tuple; by = the.Event n })) sum (heard_in 1 history stream at.index tuple at.heard) in
      let x : DerivedTuple = record { tuple = tuple; by = the.Event place } in
      subst (λ (b : Bool). Contains (map (as_read b) (derived_env program history stream)) x) (sym (is_below stream program.declared at.declared))
      (map_in (as_read true) (derived_env program history stream) x (subst (λ (list : List DerivedTuple). Contains list x) (sym (declared_derived kinds program history typed stream at.declared)) there))

  -- a query's tuple that is read
  query_in : (stream : ℕ) (e : Ex) (by : Derivation) (tuple : TupleView) → IsPublished program stream e → Lists e by tuple → Lists (Read stream) (the.Query by) tuple
  query_in stream e by tuple is has =
      let x : DerivedTuple = record { tuple = tuple; by = by } in
      subst (λ (b : Bool). Contains (map (as_read b) (derived_env program history stream)) (record { tuple = tuple; by = the.Query by })) (sym (not_declared kinds program history typed unborn stream e is))
      (map_in (as_read false) (derived_env program history stream) x (subst (λ (list : List DerivedTuple). Contains list x) (sym (published_derived kinds program history typed stream e is)) has))

  -- a match
  next_in : (p : List Pr) (e f : Ex) (by next_by : Derivation) (binding event : TupleView) → Lists e by binding → Lists f next_by event → Contains (nexts p binding (denote f (env program history))) event
      → Contains (found (Next p e f)) (derived_join (record { tuple = binding; by = by }) (record { tuple = event; by = next_by }))
  next_in p e f by next_by binding event left right next =
      let l : DerivedTuple = record { tuple = binding; by = by } in
      let r : DerivedTuple = record { tuple = event; by = next_by } in
      let among = found_next p binding (found f) r right (subst (λ (tuples : List TupleView). Contains (nexts p binding tuples) event) (sym (found_denoted kinds program history typed unborn f)) next) in
      flat_map_in (derived_matches p (found f)) (found e) l (derived_join l r) left (map_in (derived_join l) (derived_nexts p binding (found f)) r among)

  -- the tuple of a run
  fold_in : (p q : List Pr) (m : Projection) (e f : Ex) (by : Derivation) (all_by : Derivations) (binding tuple : TupleView) → Lists e by binding → RunIsIn (length (found f)) p q m f binding all_by tuple → Lists (Fold p q m e f) (the.Fold by all_by) tuple
  fold_in p q m e f by all_by binding tuple left runs =
      let l : DerivedTuple = record { tuple = binding; by = by } in
      subst (Contains (found (Fold p q m e f))) (λ i. record { tuple = runs.tuple_is i; by = the.Fold by (runs.events_are i) })
      (flat_map_in (derived_runs p q m.parts (found f)) (found e) l (derived_fold by runs.run) left (map_in (derived_fold by) (derived_runs_within (length (found f)) p q m.parts (found f) binding) runs.run runs.there))

  -- there are no more events behind a binding than there are tuples
  few_events : (f : Ex) (time : ℕ) → count time (tuples_in (found f)) ≤ length (found f)
  few_events f time = let most = count_most time (tuples_in (found f)) in let same = length-map (found f) (λ (x : DerivedTuple). x.tuple) in omega (arith, most, same)

  mutual
    -- each derivation is listed: by induction on how it derives its tuple
    pub derived_are_listed : {e : Ex} {by : Derivation} {tuple : TupleView} → Derives program history e by tuple → Lists e by tuple
    derived_are_listed (row.event {stream} {place} {tuple} at) = event_in stream place tuple at
    derived_are_listed (row.query {stream} {e} {by} {tuple} is d) = query_in stream e by tuple is (derived_are_listed d)
    derived_are_listed (row.filter {p} {e} {by} {tuple} d passes) = filter_in (λ (x : DerivedTuple). all_true p x.tuple None) (found e) (record { tuple = tuple; by = by }) (derived_are_listed d) passes
    derived_are_listed (row.select {m} {e} {by} {source} {tuple} d is) =
        subst (λ (t : TupleView). Lists (Select m e) by t) (sym is) (map_in (derived_selected m.parts) (found e) (record { tuple = source; by = by }) (derived_are_listed d))
    derived_are_listed (row.left {e} {f} {by} {tuple} d) =
        Contains-append_left (map (going_on the.Left) (found e)) (map (going_on the.Right) (found f)) (record { tuple = tuple; by = the.Left by }) (map_in (going_on the.Left) (found e) (record { tuple = tuple; by = by }) (derived_are_listed d))
    derived_are_listed (row.right {e} {f} {by} {tuple} d) =
        Contains-append_right (map (going_on the.Left) (found e)) (map (going_on the.Right) (found f)) (record { tuple = tuple; by = the.Right by }) (map_in (going_on the.Right) (found f) (record { tuple = tuple; by = by }) (derived_are_listed d))
    derived_are_listed (row.next {p} {e} {f} {by} {next_by} {binding} {event} {tuple} d n next is) =
        subst (λ (t : TupleView). Lists (Next p e f) (the.Next by next_by) t) (sym is) (next_in p e f by next_by binding event (derived_are_listed d) (derived_are_listed n) next)
    derived_are_listed (row.fold {p} {q} {m} {e} {f} {by} {all_by} {binding} {tuple} d runs) =
        fold_in p q m e f by all_by binding tuple (derived_are_listed d) (iterations_are_listed runs (length (found f)) (few_events f binding.at))

    iterations_are_listed : {p q : List Pr} {m : Projection} {f : Ex} {binding : TupleView} {all_by : Derivations} {tuple : TupleView} → Iterates program history p q m f binding all_by tuple
        → (most : ℕ) → count binding.at (tuples_in (found f)) ≤ most → RunIsIn most p q m f binding all_by tuple
    iterations_are_listed (row.last {p} {q} {m} {f} {by} {binding} {event} {tuple} d goes is) most few = last_in most p q m f by binding event tuple few goes (derived_are_listed d) is
    iterations_are_listed (row.more {p} {q} {m} {f} {by} {later} {binding} {event} {tuple} d goes rest) most few =
        more_in most p q m f by later binding event tuple few goes (derived_are_listed d) (λ n enough. iterations_are_listed rest n enough)
