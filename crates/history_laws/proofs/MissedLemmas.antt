-- Where events never fall, what is denoted over those behind a beginning is denoted over all.
use Rattle.std.proofs.Common.{◌≡◌, ◌∙◌, sym, ap, refl, subst, ℕ, zero, suc, ◌<◌, ◌≤◌, ◌==◌, Bool, true, false, cond, get_or, nat_le, nat_lt, length, List, [], ◌∷◌, ◌++◌, map, arith}
use Rattle.std.specs.Prelude.{Contains, None, Option, Some}
use Rattle.std.specs.List.{All, filter, flat_map}
use Rattle.std.proofs.lemmas.Bool.Decides.{nat_tests}
use Rattle.std.proofs.lemmas.List.{get_or-map, length-map, map-append}
use Rattle.std.proofs.lemmas.List.Elements.{All-append, All-contains, All-cons, All-filter, All-head, All-map, All-nil, All-weaker, Contains-append_left, Contains-append_right, Contains-get_or, filter-append, filter_passes}
use Rattle.std.proofs.lemmas.List.Sorted.{All-permutation, Contains-permutation, IsPermutation-sym}
use Rattle.event_types.specs.Order.{sorted, tuple_cmp}
use Rattle.event_types.specs.OrderLaws.{tuple_total}
use Rattle.event_types.specs.Tuple.{IsSound, TupleView}
use Rattle.event_types.proofs.SortLemmas.{sort_permutes}
use Rattle.semantics.specs.Births.{after, is_after, streams_after}
use Rattle.semantics.specs.Denotation.{Streams, denote, joined, matches, selected}
use Rattle.semantics.specs.Expressions.{Ex, Read, Filter, Select, Union, Next, Fold}
use Rattle.semantics.specs.Histories.{Event, heard_on, upto}
use Rattle.semantics.specs.Laws.{NeverFalls}
use Rattle.semantics.specs.Nexts.{is_eligible, nexts}
use Rattle.semantics.specs.Programs.{Program, Query, declared_streams, env, published, with_stream}
use Rattle.semantics.specs.Results.{results}
use Rattle.semantics.specs.Runs.{goers, rebound, runs, runs_within}
use Rattle.semantics.specs.Scalars.{Pr, Sc}
use Rattle.semantics.specs.Truth.{all_true}
use Rattle.semantics.proofs.ListLemmas.{All-flat_map, All-left, All-right, every, filter_swap}
use Rattle.scalar_expr.proofs.NextsLemmas.{nexts_keep}
use Rattle.algebra.proofs.SoundLemmas.{denote_sound}
use Rattle.history_laws.specs.LateStarts.{AreSound, ResultsSpanAtMost, SpansAtMost, is_late, late}
use Rattle.history_laws.proofs.LateLemmas.{below, late_denoted}
use Rattle.history_laws.proofs.RestartLemmas.{past_hears}
use Rattle.history_laws.proofs.SiftLemmas.{eligible_later, nexts_kept, runs_same}
use Rattle.history_laws.proofs.StreamLemmas.{AllSound, heard_sound, with_sound}

-- what an item gives is among what all give, by induction on the items
given_within : {X Y : Type 0} (f : X → List Y) (xs : List X) (x : X) → Contains xs x → All (Contains (flat_map f xs)) (f x)
given_within f [] x there = absurd (omega (arith, there.1))
given_within f (first ∷ xs) x (zero, lt, same) =
    subst (λ y. All (Contains (f first ++ flat_map f xs)) (f y)) same (λ k d within. Contains-append_left (f first) (flat_map f xs) (get_or (f first) k d) (Contains-get_or (f first) k d within))
given_within f (first ∷ xs) x (suc k, lt, same) =
    All-weaker (Contains (flat_map f xs)) (Contains (f first ++ flat_map f xs)) (λ y h. Contains-append_right (f first) (flat_map f xs) y h) (f x) (given_within f xs x (k, omega arith, same))

-- an item that passes is among those that do, by induction on the items
passes_within : {X : Type 0} (test : X → Bool) (xs : List X) (x : X) → Contains xs x → test x ≡ true → Contains (filter test xs) x
passes_within test [] x there e = absurd (omega (arith, there.1))
passes_within test (first ∷ xs) x (zero, lt, same) e = go (test first) refl
  where
    go : (b : Bool) → test first ≡ b → Contains (cond b (first ∷ filter test xs) (filter test xs)) x
    go true is = (0, omega arith, same)
    go false is = absurd (cc)
passes_within test (first ∷ xs) x (suc k, lt, same) e = go (test first) (passes_within test xs x (k, omega arith, same) e)
  where
    go : (b : Bool) → Contains (filter test xs) x → Contains (cond b (first ∷ filter test xs) (filter test xs)) x
    go true rest = Contains-append_right (first ∷ []) (filter test xs) x rest
    go false rest = rest

-- what is made of an item is among what is made of all
made_within : {X Y : Type 0} (f : X → Y) (xs : List X) (x : X) → Contains xs x → Contains (map f xs) (f x)
made_within f xs x (k, lt, same) = (k, subst (λ n. k < n) (sym (length-map xs f)) lt, get_or-map f xs k x (f x) lt ∙ ap f same)

-- the bindings of this test are detected at the bound or later
abbrev is_then : ℕ → TupleView → Bool
is_then bound tuple = nat_le bound tuple.at

then_passes : (bound : ℕ) (t : TupleView) → bound ≤ t.at → is_then bound t ≡ true
then_passes bound t le = grind (arith, nat_tests)

follower_late : (bound : ℕ) (p : List Pr) (b r : TupleView) → IsSound b → is_then bound b ≡ true → is_eligible p b r ≡ true → is_late (suc bound) r ≡ true
follower_late bound p b r sound passes e = let later = eligible_later p b r e in grind (arith, nat_tests)

rebound_then : (bound : ℕ) (p : List Pr) (m : List Sc) (b r : TupleView) → IsSound r → is_then bound b ≡ true → is_eligible p b r ≡ true → is_then bound (rebound m b r) ≡ true
rebound_then bound p m b r sound passes e = let later = eligible_later p b r e in grind (arith, nat_tests)

-- both are sound and have the same tuples behind the bound, and those of the one are among those of the other, and detected no earlier than the bound
record AreWithin (bound : ℕ) (few all : Streams) : Type 0 where
  pub few_sound : AllSound few
  pub all_sound : AllSound all
  pub same_late : (stream : ℕ) → late (suc bound) (few stream) ≡ late (suc bound) (all stream)
  pub then : (stream : ℕ) → All (λ t. bound ≤ t.at) (few stream)
  pub there : (stream : ℕ) → All (Contains (all stream)) (few stream)

module _ (bound : ℕ) (few all : Streams) (within : AreWithin bound few all) where
  denoted_late : (e : Ex) → late (suc bound) (denote e few) ≡ late (suc bound) (denote e all)
  denoted_late e = late_denoted (suc bound) e few within.few_sound ∙ ap (denote e) same ∙ sym (late_denoted (suc bound) e all within.all_sound)
    where
      late_of : Streams → Streams
      late_of streams stream = late (suc bound) (streams stream)

      same : late_of few ≡ late_of all
      same i stream = within.same_late stream i

  -- runs are detected when their events are, by induction on their length
  runs_then : (p q : List Pr) (m : List Sc) (rs : List TupleView) → All (λ r. bound ≤ r.at) rs → (n : ℕ) (b : TupleView) → All (λ t. bound ≤ t.at) (runs_within n p q m rs b)
  runs_then p q m rs h zero b = All-nil (λ t. bound ≤ t.at)
  runs_then p q m rs h (suc n) b =
      All-flat_map (λ t. bound ≤ t.at) (λ r. rebound m b r ∷ runs_within n p q m rs (rebound m b r)) (goers p q rs b)
      (All-weaker (λ r. bound ≤ r.at) (λ r. All (λ t. bound ≤ t.at) (rebound m b r ∷ runs_within n p q m rs (rebound m b r)))
      (λ r le. All-cons (λ t. bound ≤ t.at) (rebound m b r) (runs_within n p q m rs (rebound m b r)) le (runs_then p q m rs h n (rebound m b r)))
      (goers p q rs b) (All-filter (λ r. all_true q r (Some b)) (λ r. bound ≤ r.at) (nexts p b rs) (nexts_keep (λ r. bound ≤ r.at) p b rs h)))

  -- what is denoted is detected no earlier than the bound, by induction on the expression
  denoted_then : (e : Ex) → All (λ t. bound ≤ t.at) (denote e few)
  denoted_then (Read stream) = within.then stream
  denoted_then (Filter p e) = All-filter (λ t. all_true p t None) (λ t. bound ≤ t.at) (denote e few) (denoted_then e)
  denoted_then (Select m e) = All-map (λ t. bound ≤ t.at) (selected m.parts) (denote e few) (denoted_then e)
  denoted_then (Union e f) = All-append (λ t. bound ≤ t.at) (denote e few) (denote f few) (denoted_then e) (denoted_then f)
  denoted_then (Next p e f) =
      let rights = denoted_then f in
      All-flat_map (λ t. bound ≤ t.at) (matches p (denote f few)) (denote e few)
      (every (λ b. All (λ t. bound ≤ t.at) (matches p (denote f few) b)) (λ b. All-map (λ t. bound ≤ t.at) (joined b) (nexts p b (denote f few)) (nexts_keep (λ r. bound ≤ r.at) p b (denote f few) rights)) (denote e few))
  denoted_then (Fold p q m e f) =
      let rights = denoted_then f in
      All-flat_map (λ t. bound ≤ t.at) (runs p q m.parts (denote f few)) (denote e few)
      (every (λ b. All (λ t. bound ≤ t.at) (runs p q m.parts (denote f few) b)) (λ b. runs_then p q m.parts (denote f few) rights (length (denote f few)) b) (denote e few))

  -- what follows a binding is the same in both
  same_matches : (p : List Pr) (f : Ex) (b : TupleView) → IsSound b → bound ≤ b.at → matches p (denote f few) b ≡ matches p (denote f all) b
  same_matches p f b sound le =
      ap (map (joined b))
      (nexts_kept (is_late (suc bound)) p b (λ r e. follower_late bound p b r sound (then_passes bound b le) e) (denote f few)
      ∙ ap (nexts p b) (denoted_late f)
      ∙ sym (nexts_kept (is_late (suc bound)) p b (λ r e. follower_late bound p b r sound (then_passes bound b le) e) (denote f all)))

  same_runs : (p q : List Pr) (m : List Sc) (f : Ex) (b : TupleView) → IsSound b → bound ≤ b.at → runs p q m (denote f few) b ≡ runs p q m (denote f all) b
  same_runs p q m f b sound le =
      one (denote f few) (denote_sound few within.few_sound f) ∙ ap (λ rs. runs p q m rs b) (denoted_late f) ∙ sym (one (denote f all) (denote_sound all within.all_sound f))
    where
      one : (rs : List TupleView) → All IsSound rs → runs p q m rs b ≡ runs p q m (late (suc bound) rs) b
      one rs h = runs_same (is_then bound) (is_late (suc bound)) p (follower_late bound p) q m (rebound_then bound p m) rs h b sound (then_passes bound b le)

  -- what is denoted is denoted over all, by induction on the expression
  denoted_there : (e : Ex) → All (Contains (denote e all)) (denote e few)
  denoted_there (Read stream) = within.there stream
  denoted_there (Filter p e) = let rest = denoted_there e in
      λ k d lt. passes_within (λ t. all_true p t None) (denote e all) (get_or (filter (λ t. all_true p t None) (denote e few)) k d) (All-filter (λ t. all_true p t None) (Contains (denote e all)) (denote e few) rest k d lt) (filter_passes (λ t. all_true p t None) (denote e few) k d lt)
  denoted_there (Select m e) =
      All-map (Contains (map (selected m.parts) (denote e all))) (selected m.parts) (denote e few)
      (All-weaker (Contains (denote e all)) (λ t. Contains (map (selected m.parts) (denote e all)) (selected m.parts t)) (λ t h. made_within (selected m.parts) (denote e all) t h) (denote e few) (denoted_there e))
  denoted_there (Union e f) =
      All-append (Contains (denote e all ++ denote f all)) (denote e few) (denote f few)
      (All-weaker (Contains (denote e all)) (Contains (denote e all ++ denote f all)) (λ t h. Contains-append_left (denote e all) (denote f all) t h) (denote e few) (denoted_there e))
      (All-weaker (Contains (denote f all)) (Contains (denote e all ++ denote f all)) (λ t h. Contains-append_right (denote e all) (denote f all) t h) (denote f few) (denoted_there f))
  denoted_there (Next p e f) =
      let rest = denoted_there e in
      All-flat_map (Contains (flat_map (matches p (denote f all)) (denote e all))) (matches p (denote f few)) (denote e few)
      (λ k d lt. one (get_or (denote e few) k d) (rest k d lt) (denote_sound few within.few_sound e k d lt) (denoted_then e k d lt))
    where
      one : (b : TupleView) → Contains (denote e all) b → IsSound b → bound ≤ b.at → All (Contains (flat_map (matches p (denote f all)) (denote e all))) (matches p (denote f few) b)
      one b there sound le = subst (All (Contains (flat_map (matches p (denote f all)) (denote e all)))) (sym (same_matches p f b sound le)) (given_within (matches p (denote f all)) (denote e all) b there)
  denoted_there (Fold p q m e f) =
      let rest = denoted_there e in
      All-flat_map (Contains (flat_map (runs p q m.parts (denote f all)) (denote e all))) (runs p q m.parts (denote f few)) (denote e few)
      (λ k d lt. one (get_or (denote e few) k d) (rest k d lt) (denote_sound few within.few_sound e k d lt) (denoted_then e k d lt))
    where
      one : (b : TupleView) → Contains (denote e all) b → IsSound b → bound ≤ b.at → All (Contains (flat_map (runs p q m.parts (denote f all)) (denote e all))) (runs p q m.parts (denote f few) b)
      one b there sound le = subst (All (Contains (flat_map (runs p q m.parts (denote f all)) (denote e all)))) (sym (same_runs p q m.parts f b sound le)) (given_within (runs p q m.parts (denote f all)) (denote e all) b there)

-- so it is with both cut at a birth
after_within : (bound : ℕ) (birth : Option ℕ) (few all : Streams) → AreWithin bound few all → AreWithin bound (streams_after birth few) (streams_after birth all)
after_within bound birth few all within = record {
  few_sound = λ stream. All-filter is_later IsSound (few stream) (within.few_sound stream);
  all_sound = λ stream. All-filter is_later IsSound (all stream) (within.all_sound stream);
  same_late = λ stream.
      filter_swap (is_late (suc bound)) is_later (few stream) ∙ ap (after birth) (within.same_late stream) ∙ sym (filter_swap (is_late (suc bound)) is_later (all stream));
  then = λ stream. All-filter is_later (λ t. bound ≤ t.at) (few stream) (within.then stream);
  there = λ stream k d lt.
      passes_within is_later (all stream) (get_or (after birth (few stream)) k d) (All-filter is_later (Contains (all stream)) (few stream) (within.there stream) k d lt) (filter_passes is_later (few stream) k d lt);
}
  where
    is_later : TupleView → Bool
    is_later tuple = is_after birth tuple.at

-- and with what an expression denotes over streams within others, as a stream of that number
published_there : (bound : ℕ) (few all : Streams) → AreWithin bound few all → (read read_all : Streams) → AreWithin bound read read_all → (number : ℕ) (e : Ex)
    → AreWithin bound (with_stream few number (denote e read)) (with_stream all number (denote e read_all))
published_there bound few all within read read_all reads number e = record {
  few_sound = with_sound few within.few_sound number (denote e read) (denote_sound read reads.few_sound e);
  all_sound = with_sound all within.all_sound number (denote e read_all) (denote_sound read_all reads.all_sound e);
  same_late = λ stream. late_by stream (stream == number);
  then = λ stream. then_by stream (stream == number);
  there = λ stream. there_by stream (stream == number);
}
  where
    late_by : (stream : ℕ) (b : Bool) → late (suc bound) (cond b (denote e read) (few stream)) ≡ late (suc bound) (cond b (denote e read_all) (all stream))
    late_by stream true = denoted_late bound read read_all reads e
    late_by stream false = within.same_late stream

    then_by : (stream : ℕ) (b : Bool) → All (λ t. bound ≤ t.at) (cond b (denote e read) (few stream))
    then_by stream true = denoted_then bound read read_all reads e
    then_by stream false = within.then stream

    there_by : (stream : ℕ) (b : Bool) → All (Contains (cond b (denote e read_all) (all stream))) (cond b (denote e read) (few stream))
    there_by stream true = denoted_there bound read read_all reads e
    there_by stream false = within.there stream

-- so it is with all streams of the program, by induction on the queries
program_within : (bound : ℕ) (order : List Query) (few all : Streams) → AreWithin bound few all → AreWithin bound (published few order) (published all order)
program_within bound [] few all within = within
program_within bound (query ∷ order) few all within =
    let read = streams_after query.birth few in
    let read_all = streams_after query.birth all in
    program_within bound order (with_stream few query.stream (denote query.expr read)) (with_stream all query.stream (denote query.expr read_all))
    (published_there bound few all within read read_all (after_within bound query.birth few all within) query.stream query.expr)

-- what is heard behind a beginning
heard_within : (bound declared : ℕ) (past history : List Event) → AreSound past → AreSound history → All (λ event. event.tuple.at < suc bound) past → All (λ event. bound ≤ event.tuple.at) history
    → AreWithin bound (declared_streams declared history) (declared_streams declared (past ++ history))
heard_within bound declared past history past_sound sound early later = record {
  few_sound = heard_sound declared history sound;
  all_sound = heard_sound declared (past ++ history) (All-append (λ event. IsSound event.tuple) past history past_sound sound);
  same_late = λ stream. late_by stream (nat_lt stream declared) refl;
  then = λ stream. then_by stream (nat_lt stream declared);
  there = λ stream. there_by stream (nat_lt stream declared);
}
  where
    late_by : (stream : ℕ) (b : Bool) → nat_lt stream declared ≡ b → late (suc bound) (cond b (heard_on history stream) []) ≡ late (suc bound) (cond b (heard_on (past ++ history) stream) [])
    late_by stream true is = sym (past_hears (suc bound) declared past history past_sound early stream (below stream declared is))
    late_by stream false is = refl

    then_by : (stream : ℕ) (b : Bool) → All (λ t. bound ≤ t.at) (cond b (heard_on history stream) [])
    then_by stream true =
        All-map (λ t. bound ≤ t.at) (λ (event : Event). event.tuple) (filter (λ event. event.stream == stream) history) (All-filter (λ event. event.stream == stream) (λ event. bound ≤ event.tuple.at) history later)
    then_by stream false = All-nil (λ t. bound ≤ t.at)

    both : (stream : ℕ) → heard_on (past ++ history) stream ≡ heard_on past stream ++ heard_on history stream
    both stream =
        ap (map (λ (event : Event). event.tuple)) (filter-append (λ (event : Event). event.stream == stream) past history)
        ∙ map-append (λ (event : Event). event.tuple) (filter (λ event. event.stream == stream) past) (filter (λ event. event.stream == stream) history)

    there_by : (stream : ℕ) (b : Bool) → All (Contains (cond b (heard_on (past ++ history) stream) [])) (cond b (heard_on history stream) [])
    there_by stream true =
        subst (λ ts. All (Contains ts) (heard_on history stream)) (sym (both stream))
        (λ k d lt. Contains-append_right (heard_on past stream) (heard_on history stream) (get_or (heard_on history stream) k d) (Contains-get_or (heard_on history stream) k d lt))
    there_by stream false = All-nil (Contains [])

-- a time between both, by induction on the beginning
record StandsBetween (bound : ℕ) (past history : List Event) : Type 0 where
  pub early : All (λ event. event.tuple.at < suc bound) past
  pub later : All (λ event. bound ≤ event.tuple.at) history

between : (past history : List Event) → NeverFalls (past ++ history) → (bound : ℕ) × StandsBetween bound past history
between [] history order = (0, record { early = All-nil (λ event. event.tuple.at < 1); later = every (λ event. 0 ≤ event.tuple.at) (λ event. omega arith) history })
between (event ∷ []) history order =
    (event.tuple.at, record { early = All-cons (λ other. other.tuple.at < suc event.tuple.at) event [] (omega arith) (All-nil (λ other. other.tuple.at < suc event.tuple.at)); later = order.0 })
between (event ∷ next ∷ past) history order =
    let (bound, known) = between (next ∷ past) history order.1 in
    let first : event.tuple.at ≤ next.tuple.at = All-head (λ late. event.tuple.at ≤ late.tuple.at) next (past ++ history) order.0 in
    let second : next.tuple.at < suc bound = All-head (λ event. event.tuple.at < suc bound) next past known.early in
    (bound, record { early = All-cons (λ event. event.tuple.at < suc bound) event (next ∷ past) (omega (arith, first, second)) known.early; later = known.later })

-- the results of a history are among those that it has behind a beginning
results_there : (program : Program) (past history : List Event) → AreSound (past ++ history) → NeverFalls (past ++ history) → (stream time : ℕ) → All (Contains (results program (past ++ history) stream time)) (results program history stream time)
results_there program past history sound order stream time =
    All-permutation (Contains (results program (past ++ history) stream time)) few (sorted few) (IsPermutation-sym (sorted few) few (sort_permutes tuple_cmp tuple_total few))
    (All-weaker (Contains all) (Contains (sorted all)) (λ t h. Contains-permutation all (sorted all) t (IsPermutation-sym (sorted all) all (sort_permutes tuple_cmp tuple_total all)) h) few found)
  where
    is_now : TupleView → Bool
    is_now tuple = tuple.at == time

    few : List TupleView
    few = filter is_now (env program (upto time history) stream)

    all : List TupleView
    all = filter is_now (env program (upto time (past ++ history)) stream)

    is_by : Event → Bool
    is_by event = nat_le event.tuple.at time

    bound : ℕ
    bound = (between past history order).0

    known : StandsBetween bound past history
    known = (between past history order).1

    heard : AreWithin bound (declared_streams program.declared (upto time history)) (declared_streams program.declared (upto time (past ++ history)))
    heard =
        subst (λ events. AreWithin bound (declared_streams program.declared (upto time history)) (declared_streams program.declared events)) (sym (filter-append is_by past history))
        (heard_within bound program.declared (upto time past) (upto time history)
        (All-filter is_by (λ event. IsSound event.tuple) past (All-left (λ event. IsSound event.tuple) past history sound))
        (All-filter is_by (λ event. IsSound event.tuple) history (All-right (λ event. IsSound event.tuple) past history sound))
        (All-filter is_by (λ event. event.tuple.at < suc bound) past known.early)
        (All-filter is_by (λ event. bound ≤ event.tuple.at) history known.later))

    inside : All (Contains (env program (upto time (past ++ history)) stream)) (env program (upto time history) stream)
    inside = (program_within bound program.order (declared_streams program.declared (upto time history)) (declared_streams program.declared (upto time (past ++ history))) heard).there stream

    found : All (Contains all) few
    found k d lt =
        passes_within is_now (env program (upto time (past ++ history)) stream) (get_or few k d)
        (All-filter is_now (Contains (env program (upto time (past ++ history)) stream)) (env program (upto time history) stream) inside k d lt) (filter_passes is_now (env program (upto time history) stream) k d lt)

-- so they span no more
pub spans_stay : (span : ℕ) (program : Program) (past history : List Event) (from : ℕ) → AreSound (past ++ history) → NeverFalls (past ++ history) → ResultsSpanAtMost span program (past ++ history) from → ResultsSpanAtMost span program history from
spans_stay span program past history from sound order spans =
    All-weaker (λ (query : Query). (time : ℕ) → from ≤ time → All (SpansAtMost span) (results program (past ++ history) query.stream time)) (λ (query : Query). (time : ℕ) → from ≤ time → All (SpansAtMost span) (results program history query.stream time))
    (λ query all time passed. All-weaker (Contains (results program (past ++ history) query.stream time)) (SpansAtMost span) (λ t h. All-contains (SpansAtMost span) (results program (past ++ history) query.stream time) t (all time passed) h) (results program history query.stream time) (results_there program past history sound order query.stream time))
    program.queries spans
