-- No derivation is listed twice.
use Rattle.std.proofs.Common.{◌≡◌, ◌∙◌, sym, ap, refl, subst, ℕ, zero, suc, ◌+◌, ◌≤◌, ◌==◌, ◌⊎◌, inl, inr, nat_lt, Bool, true, false, cond, length, List, [], ◌∷◌, ◌++◌, map, arith}
use Rattle.std.specs.Prelude.{Contains, None, Some}
use Rattle.std.proofs.lemmas.List.{map-append}
use Rattle.std.proofs.lemmas.Simd.{map-map}
use Rattle.event_types.specs.Tuple.{TupleView}
use Rattle.semantics.specs.Scalars.{Pr, Sc}
use Rattle.semantics.specs.Truth.{all_true}
use Rattle.semantics.specs.Nexts.{is_earliest, is_eligible}
use Rattle.semantics.specs.Runs.{rebound}
use Rattle.semantics.specs.Expressions.{Ex, Read, Filter, Select, Union, Next, Fold}
use Rattle.semantics.specs.Histories.{Event}
use Rattle.semantics.specs.Programs.{Program, Query}
use Rattle.derivations.specs.Derivation.{Derivation, Derivations, listed}
use Rattle.derivations.specs.Derivation as the
use Rattle.derivations.specs.DerivedTuples.{DerivedStreams, DerivedTuple, Run, as_read, begun_by, derivations_in, derived, derived_eligible, derived_fold, derived_goers, derived_join, derived_matches, derived_nexts, derived_runs, derived_runs_within, derived_selected, going_on, tuples_in}
use Rattle.derivations.specs.DerivedPrograms.{derived_declared, derived_env, derived_heard, derived_in_turn, with_derived}
use Rattle.derivations.proofs.DistinctLists.{AreDistinct, distinct_append, distinct_filter, distinct_flat_map, distinct_map}
use Rattle.derivations.proofs.ListLemmas.{in_cases, in_flat_map, in_map, none_in}

-- parts of a derivation
abbrev of_query : Derivation → Derivation
of_query (the.Query by) = by
of_query by = by

abbrev of_left : Derivation → Derivation
of_left (the.Left by) = by
of_left by = by

abbrev of_right : Derivation → Derivation
of_right (the.Right by) = by
of_right by = by

abbrev first_of : Derivation → Derivation
first_of (the.Next by next_by) = by
first_of (the.Fold by all_by) = by
first_of by = by

abbrev next_of : Derivation → Derivation
next_of (the.Next by next_by) = next_by
next_of by = by

abbrev events_of : Derivation → Derivations
events_of (the.Fold by all_by) = all_by
events_of by = the.None

abbrev is_left : Derivation → Bool
is_left (the.Left by) = true
is_left by = false

abbrev place_of : Derivation → ℕ
place_of (the.Event place) = place
place_of by = 0

-- the events of a list of derivations
abbrev unlisted : Derivations → List Derivation
unlisted the.None = []
unlisted (the.More by later) = by ∷ unlisted later

pub unlisted-listed : (events : List Derivation) → unlisted (listed events) ≡ events
unlisted-listed [] = refl
unlisted-listed (by ∷ events) = ap (λ later. by ∷ later) (unlisted-listed events)

listed_apart : (xs ys : List Derivation) → listed xs ≡ listed ys → xs ≡ ys
listed_apart xs ys same = sym (unlisted-listed xs) ∙ ap unlisted same ∙ unlisted-listed ys

-- the events of a run
abbrev run_events : Run → List Derivation
run_events run = run.events

-- the derivation alone
abbrev pub by_of : DerivedTuple → Derivation
by_of x = x.by

-- the nexts of a binding are distinct
nexts_distinct : (p : List Pr) (b : TupleView) (found : List DerivedTuple) → AreDistinct (derivations_in found) → AreDistinct (derivations_in (derived_nexts p b found))
nexts_distinct p b found all =
    let eligible = derived_eligible p b found in
    distinct_filter by_of (λ x. is_earliest (tuples_in eligible) x.tuple) eligible (distinct_filter by_of (λ x. is_eligible p b x.tuple) found all)

goers_distinct : (p q : List Pr) (found : List DerivedTuple) (b : TupleView) → AreDistinct (derivations_in found) → AreDistinct (derivations_in (derived_goers p q found b))
goers_distinct p q found b all = distinct_filter by_of (λ x. all_true q x.tuple (Some b)) (derived_nexts p b found) (nexts_distinct p b found all)

-- so are the matches
matches_distinct : (p : List Pr) (found : List DerivedTuple) → AreDistinct (derivations_in found) → (left : DerivedTuple) → AreDistinct (derivations_in (derived_matches p found left))
matches_distinct p found all left =
    let right = derived_nexts p left.tuple found in
    subst AreDistinct (map-map (the.Next left.by) by_of right ∙ sym (map-map by_of (derived_join left) right))
    (distinct_map (the.Next left.by) (λ x y same. ap next_of same) (derivations_in right) (nexts_distinct p left.tuple found all))

-- a match tells the derivation of its left tuple
matches_tell : (p : List Pr) (found : List DerivedTuple) (left other y z : DerivedTuple) → Contains (derived_matches p found left) y → Contains (derived_matches p found other) z → y.by ≡ z.by → left.by ≡ other.by
matches_tell p found left other y z one two same =
    let here = in_map (derived_join left) (derived_nexts p left.tuple found) y one in
    let there = in_map (derived_join other) (derived_nexts p other.tuple found) z two in
    ap (λ x. first_of x.by) here.2 ∙ ap first_of same ∙ sym (ap (λ x. first_of x.by) there.2)

-- the runs that begin with an event
abbrev branch : ℕ → List Pr → List Pr → List Sc → List DerivedTuple → TupleView → DerivedTuple → List Run
branch most p q m found b x = record { tuple = rebound m b x.tuple; events = x.by ∷ [] } ∷ map (begun_by x.by) (derived_runs_within most p q m found (rebound m b x.tuple))

-- the events of a run begin with this one
abbrev BeginsWith : Derivation → Run → Type 0
BeginsWith by run = (later : List Derivation) × (run.events ≡ by ∷ later)

-- a run of a branch begins with its event
branch_begins : (most : ℕ) (p q : List Pr) (m : List Sc) (found : List DerivedTuple) (b : TupleView) (x : DerivedTuple) (run : Run) → Contains (branch most p q m found b x) run → BeginsWith x.by run
branch_begins most p q m found b x run has = go (in_cases one rest run has)
  where
    one : Run
    one = record { tuple = rebound m b x.tuple; events = x.by ∷ [] }

    rest : List Run
    rest = map (begun_by x.by) (derived_runs_within most p q m found (rebound m b x.tuple))

    go : (one ≡ run) ⊎ Contains rest run → BeginsWith x.by run
    go (inl same) = ([], sym (ap run_events same))
    go (inr later) = let from = in_map (begun_by x.by) (derived_runs_within most p q m found (rebound m b x.tuple)) run later in (from.0.events, sym (ap run_events from.2))

-- a run has an event
run_begins : (most : ℕ) (p q : List Pr) (m : List Sc) (found : List DerivedTuple) (b : TupleView) (run : Run) → Contains (derived_runs_within most p q m found b) run → (by : Derivation) × BeginsWith by run
run_begins zero p q m found b run has = absurd (none_in run has)
run_begins (suc most) p q m found b run has =
    let from = in_flat_map (branch most p q m found b) (derived_goers p q found b) run has in (from.0.by, branch_begins most p q m found b from.0 run from.2)

-- the first of some events
abbrev first_event : List Derivation → Derivation
first_event [] = the.Event 0
first_event (by ∷ events) = by

-- the events behind the first
abbrev later_events : List Derivation → List Derivation
later_events [] = []
later_events (by ∷ events) = events

-- no two runs have the same events: by induction on how many events they may have
within_distinct : (most : ℕ) (p q : List Pr) (m : List Sc) (found : List DerivedTuple) → AreDistinct (derivations_in found) → (b : TupleView) → AreDistinct (map run_events (derived_runs_within most p q m found b))
within_distinct zero p q m found all b = tt
within_distinct (suc most) p q m found all b =
    distinct_flat_map by_of run_events (branch most p q m found b) tell (λ x. each x (within_distinct most p q m found all (rebound m b x.tuple))) (derived_goers p q found b) (goers_distinct p q found b all)
  where
    tell : (x z : DerivedTuple) (y w : Run) → Contains (branch most p q m found b x) y → Contains (branch most p q m found b z) w → y.events ≡ w.events → x.by ≡ z.by
    tell x z y w one two same =
        let here = branch_begins most p q m found b x y one in
        let there = branch_begins most p q m found b z w two in
        ap first_event (sym here.1 ∙ same ∙ there.1)

    each : (x : DerivedTuple) → AreDistinct (map run_events (derived_runs_within most p q m found (rebound m b x.tuple))) → AreDistinct (map run_events (branch most p q m found b x))
    each x rest =
        (single, subst AreDistinct (map-map (λ events. x.by ∷ events) run_events runs ∙ sym (map-map run_events (begun_by x.by) runs)) (distinct_map (λ events. x.by ∷ events) (λ y z same. ap later_events same) (map run_events runs) rest))
      where
        runs : List Run
        runs = derived_runs_within most p q m found (rebound m b x.tuple)

        single : Contains (map run_events (map (begun_by x.by) runs)) (x.by ∷ []) → ⊥
        single has =
            let from = in_map run_events (map (begun_by x.by) runs) (x.by ∷ []) has in
            let run = in_map (begun_by x.by) runs from.0 from.1 in
            let begins = run_begins most p q m found (rebound m b x.tuple) run.0 run.1 in
            let none : begins.0 ∷ begins.1.0 ≡ [] = sym begins.1.1 ∙ ap (λ r. later_events (run_events r)) run.2 ∙ ap later_events from.2 in
            cc

-- so no two tuples of the runs from a binding have the same derivation
runs_distinct : (p q : List Pr) (m : List Sc) (found : List DerivedTuple) → AreDistinct (derivations_in found) → (binding : DerivedTuple) → AreDistinct (derivations_in (derived_runs p q m found binding))
runs_distinct p q m found all binding =
    let runs = derived_runs_within (length found) p q m found binding.tuple in
    subst AreDistinct (map-map (λ events. the.Fold binding.by (listed events)) run_events runs ∙ sym (map-map by_of (derived_fold binding.by) runs))
    (distinct_map (λ events. the.Fold binding.by (listed events)) (λ x y same. listed_apart x y (ap events_of same)) (map run_events runs) (within_distinct (length found) p q m found all binding.tuple))

-- a run tells the derivation of its first binding
runs_tell : (p q : List Pr) (m : List Sc) (found : List DerivedTuple) (left other y z : DerivedTuple) → Contains (derived_runs p q m found left) y → Contains (derived_runs p q m found other) z → y.by ≡ z.by → left.by ≡ other.by
runs_tell p q m found left other y z one two same =
    let here = in_map (derived_fold left.by) (derived_runs_within (length found) p q m found left.tuple) y one in
    let there = in_map (derived_fold other.by) (derived_runs_within (length found) p q m found other.tuple) z two in
    ap (λ x. first_of x.by) here.2 ∙ ap first_of same ∙ sym (ap (λ x. first_of x.by) there.2)

-- the derivations that go on are distinct
going_on_distinct : (way : Derivation → Derivation) → ((x y : Derivation) → way x ≡ way y → x ≡ y) → (found : List DerivedTuple) → AreDistinct (derivations_in found) → AreDistinct (derivations_in (map (going_on way) found))
going_on_distinct way apart found all = subst AreDistinct (map-map way by_of found ∙ sym (map-map by_of (going_on way) found)) (distinct_map way apart (derivations_in found) all)

as_read_distinct : (b : Bool) (found : List DerivedTuple) → AreDistinct (derivations_in found) → AreDistinct (derivations_in (map (as_read b) found))
as_read_distinct true found all = subst AreDistinct (sym (map-map by_of (as_read true) found)) all
as_read_distinct false found all = going_on_distinct the.Query (λ x y same. ap of_query same) found all

-- no derivation of an expression is listed twice, where none of a stream is: by induction on the expression
pub derived_distinct : (declared : ℕ) (streams : DerivedStreams) → ((stream : ℕ) → AreDistinct (derivations_in (streams stream))) → (e : Ex) → AreDistinct (derivations_in (derived declared e streams))
derived_distinct declared streams all (Read stream) = as_read_distinct (nat_lt stream declared) (streams stream) (all stream)
derived_distinct declared streams all (Filter p e) = distinct_filter by_of (λ x. all_true p x.tuple None) (derived declared e streams) (derived_distinct declared streams all e)
derived_distinct declared streams all (Select m e) =
    subst AreDistinct (sym (map-map by_of (derived_selected m.parts) (derived declared e streams))) (derived_distinct declared streams all e)
derived_distinct declared streams all (Union e f) =
    sides (derived declared e streams) (derived declared f streams) (derived_distinct declared streams all e) (derived_distinct declared streams all f)
  where
    sides : (left right : List DerivedTuple) → AreDistinct (derivations_in left) → AreDistinct (derivations_in right) → AreDistinct (derivations_in (map (going_on the.Left) left ++ map (going_on the.Right) right))
    sides left right one two =
        subst AreDistinct (sym (map-append by_of (map (going_on the.Left) left) (map (going_on the.Right) right)))
        (distinct_append (derivations_in (map (going_on the.Left) left)) (derivations_in (map (going_on the.Right) right))
        (going_on_distinct the.Left (λ x y same. ap of_left same) left one) (going_on_distinct the.Right (λ x y same. ap of_right same) right two) none)
      where
        none : (by : Derivation) → Contains (derivations_in (map (going_on the.Left) left)) by → Contains (derivations_in (map (going_on the.Right) right)) by → ⊥
        none by here there =
            let x = in_map by_of (map (going_on the.Left) left) by here in
            let y = in_map by_of (map (going_on the.Right) right) by there in
            let z = in_map (going_on the.Left) left x.0 x.1 in
            let w = in_map (going_on the.Right) right y.0 y.1 in
            let same : true ≡ false = ap (λ d. is_left (by_of d)) z.2 ∙ ap is_left (x.2 ∙ sym y.2) ∙ sym (ap (λ d. is_left (by_of d)) w.2) in
            cc
derived_distinct declared streams all (Next p e f) =
    let right = derived declared f streams in
    distinct_flat_map by_of by_of (derived_matches p right) (matches_tell p right) (matches_distinct p right (derived_distinct declared streams all f)) (derived declared e streams) (derived_distinct declared streams all e)
derived_distinct declared streams all (Fold p q m e f) =
    let right = derived declared f streams in
    distinct_flat_map by_of by_of (derived_runs p q m.parts right) (runs_tell p q m.parts right) (runs_distinct p q m.parts right (derived_distinct declared streams all f)) (derived declared e streams) (derived_distinct declared streams all e)

-- the events of a stream from a place on have no lower place
heard_from_place : (place : ℕ) (history : List Event) (stream : ℕ) (by : Derivation) → Contains (derivations_in (derived_heard place history stream)) by → place ≤ place_of by
heard_from_place place [] stream by has = absurd (none_in by has)
heard_from_place place (event ∷ later) stream by has = go (event.stream == stream) has (heard_from_place (place + 1) later stream by)
  where
    go : (b : Bool) → Contains (derivations_in (cond b (record { tuple = event.tuple; by = the.Event place } ∷ []) [] ++ derived_heard (place + 1) later stream)) by
        → (Contains (derivations_in (derived_heard (place + 1) later stream)) by → place + 1 ≤ place_of by) → place ≤ place_of by
    go true found rest = step (in_cases (the.Event place) (derivations_in (derived_heard (place + 1) later stream)) by found)
      where
        step : (the.Event place ≡ by) ⊎ Contains (derivations_in (derived_heard (place + 1) later stream)) by → place ≤ place_of by
        step (inl same) = let is : place ≡ place_of by = ap place_of same in omega (arith, is)
        step (inr more) = let le = rest more in omega (arith, le)
    go false found rest = let le = rest found in omega (arith, le)

-- so no event of a stream is listed twice
heard_distinct : (place : ℕ) (history : List Event) (stream : ℕ) → AreDistinct (derivations_in (derived_heard place history stream))
heard_distinct place [] stream = tt
heard_distinct place (event ∷ later) stream = go (event.stream == stream) (heard_distinct (place + 1) later stream)
  where
    go : (b : Bool) → AreDistinct (derivations_in (derived_heard (place + 1) later stream))
        → AreDistinct (derivations_in (cond b (record { tuple = event.tuple; by = the.Event place } ∷ []) [] ++ derived_heard (place + 1) later stream))
    go true rest = (λ has. let le : place + 1 ≤ place = heard_from_place (place + 1) later stream (the.Event place) has in absurd (omega (arith, le)), rest)
    go false rest = rest

declared_distinct : (declared : ℕ) (history : List Event) (stream : ℕ) → AreDistinct (derivations_in (derived_declared declared history stream))
declared_distinct declared history stream = go (nat_lt stream declared)
  where
    go : (b : Bool) → AreDistinct (derivations_in (cond b (derived_heard 1 history stream) []))
    go true = heard_distinct 1 history stream
    go false = tt

-- nor any that queries publish in turn: by induction on the queries
in_turn_distinct : (declared : ℕ) (order : List Query) (streams : DerivedStreams) → ((stream : ℕ) → AreDistinct (derivations_in (streams stream))) → (stream : ℕ) → AreDistinct (derivations_in (derived_in_turn declared streams order stream))
in_turn_distinct declared [] streams all = all
in_turn_distinct declared (query ∷ order) streams all = in_turn_distinct declared order (with_derived streams query.stream found) (λ stream. go stream (stream == query.stream))
  where
    found : List DerivedTuple
    found = derived declared query.expr streams

    go : (stream : ℕ) (b : Bool) → AreDistinct (derivations_in (cond b found (streams stream)))
    go stream true = derived_distinct declared streams all query.expr
    go stream false = all stream

-- so no derivation of a program's stream is listed twice
pub env_distinct : (program : Program) (history : List Event) (stream : ℕ) → AreDistinct (derivations_in (derived_env program history stream))
env_distinct program history = in_turn_distinct program.declared program.order (derived_declared program.declared history) (declared_distinct program.declared history)
