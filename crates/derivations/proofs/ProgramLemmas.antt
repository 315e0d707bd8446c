-- The streams of a program with their derivations.
use Rattle.std.proofs.Common.{◌≡◌, ◌∙◌, sym, ap, refl, subst, ℕ, ◌+◌, ◌<◌, ◌==◌, ◌⊎◌, inl, inr, nat_lt, Bool, true, false, cond, List, [], ◌∷◌, ◌++◌, map, arith}
use Rattle.std.specs.Prelude.{Contains, None}
use Rattle.std.specs.List.{All, filter, flat_map, range_with_len}
use Rattle.std.proofs.lemmas.List.Elements.{All-cons, All-contains, All-contains_itself, All-filter, All-head, All-map, All-nil, All-tail, Contains-append_left, Contains-push, Contains-push_cases}
use Rattle.std.proofs.lemmas.List.Sorted.{All-permutation, IsPermutation-sym}
use Rattle.event_types.specs.declared.kind.Kind.{Kind}
use Rattle.event_types.specs.Tuple.{IsSound, TupleView}
use Rattle.event_types.proofs.NumberLemmas.{is_below, is_other, is_same}
use Rattle.semantics.specs.Births.{is_after, streams_after}
use Rattle.semantics.specs.Denotation.{Streams, denote}
use Rattle.semantics.specs.Expressions.{Ex, Read, Filter, Select, Union, Next, Fold}
use Rattle.semantics.specs.Histories.{Event, heard_on}
use Rattle.semantics.specs.Programs.{IsUnborn, Program, Query, declared_streams, env, published, with_stream}
use Rattle.semantics.specs.Reading.{ReadsOnly}
use Rattle.semantics.specs.Truth.{all_true}
use Rattle.semantics.specs.TypedPrograms.{IsProgram, PublishInTurn}
use Rattle.semantics.proofs.BirthLemmas.{streams_after-none}
use Rattle.semantics.proofs.StatementLemmas.{declared_there, there_declared}
use Rattle.algebra.proofs.SoundLemmas.{denote_sound}
use Rattle.derivations.specs.Derivation as the
use Rattle.derivations.specs.DerivedTuples.{DerivedStreams, DerivedTuple, as_read, derived, derived_matches, derived_runs, derived_selected, going_on, tuples_in}
use Rattle.derivations.specs.DerivedPrograms.{derived_declared, derived_env, derived_heard, derived_in_turn, with_derived}
use Rattle.derivations.specs.Derives.{IsPublished}
use Rattle.derivations.proofs.TupleLemmas.{tuples_derived}

-- streams that agree where the expression reads give the same
derived_agrees : (declared : ℕ) (IsSo : ℕ → Type 0) (streams others : DerivedStreams) → ((stream : ℕ) → IsSo stream → streams stream ≡ others stream) → (e : Ex) → ReadsOnly IsSo e → derived declared e streams ≡ derived declared e others
derived_agrees declared IsSo streams others same (Read stream) reads = ap (map (as_read (nat_lt stream declared))) (same stream reads)
derived_agrees declared IsSo streams others same (Filter p e) reads = ap (filter (λ (x : DerivedTuple). all_true p x.tuple None)) (derived_agrees declared IsSo streams others same e reads)
derived_agrees declared IsSo streams others same (Select m e) reads = ap (map (derived_selected m.parts)) (derived_agrees declared IsSo streams others same e reads)
derived_agrees declared IsSo streams others same (Union e f) reads =
    λ i. map (going_on the.Left) (derived_agrees declared IsSo streams others same e reads.0 i) ++ map (going_on the.Right) (derived_agrees declared IsSo streams others same f reads.1 i)
derived_agrees declared IsSo streams others same (Next p e f) reads =
    λ i. flat_map (derived_matches p (derived_agrees declared IsSo streams others same f reads.1 i)) (derived_agrees declared IsSo streams others same e reads.0 i)
derived_agrees declared IsSo streams others same (Fold p q m e f) reads =
    λ i. flat_map (derived_runs p q m.parts (derived_agrees declared IsSo streams others same f reads.1 i)) (derived_agrees declared IsSo streams others same e reads.0 i)

-- a weaker fact of each stream that is read
pub reads_weaker : (IsSo IsThus : ℕ → Type 0) → ((stream : ℕ) → IsSo stream → IsThus stream) → (e : Ex) → ReadsOnly IsSo e → ReadsOnly IsThus e
reads_weaker IsSo IsThus more (Read stream) so = more stream so
reads_weaker IsSo IsThus more (Filter p e) so = reads_weaker IsSo IsThus more e so
reads_weaker IsSo IsThus more (Select m e) so = reads_weaker IsSo IsThus more e so
reads_weaker IsSo IsThus more (Union e f) so = (reads_weaker IsSo IsThus more e so.0, reads_weaker IsSo IsThus more f so.1)
reads_weaker IsSo IsThus more (Next p e f) so = (reads_weaker IsSo IsThus more e so.0, reads_weaker IsSo IsThus more f so.1)
reads_weaker IsSo IsThus more (Fold p q m e f) so = (reads_weaker IsSo IsThus more e so.0, reads_weaker IsSo IsThus more f so.1)

-- queries that publish in turn leave the streams that are there: by induction on the queries
in_turn_there : (declared : ℕ) (kinds : ℕ → List Kind) (there : List ℕ) (streams : DerivedStreams) (order : List Query) → PublishInTurn kinds there order → (stream : ℕ) → Contains there stream
    → derived_in_turn declared streams order stream ≡ streams stream
in_turn_there declared kinds there streams [] turn stream has = refl
in_turn_there declared kinds there streams (query ∷ order) turn stream has =
    let found = derived declared query.expr streams in
    let rest = in_turn_there declared kinds (there ++ query.stream ∷ []) (with_derived streams query.stream found) order turn.3 stream (Contains-append_left there (query.stream ∷ []) stream has) in
    let below : stream < query.stream = All-contains (λ s. s < query.stream) there stream turn.0 has in
    let other : stream ≡ query.stream → ⊥ = λ same. absurd (omega (arith, below, same)) in rest ∙ ap (λ b. cond b found (streams stream)) (is_other stream query.stream other)

-- in the end each query's stream has what its expression gives: by induction on the queries
in_turn_derived : (declared : ℕ) (kinds : ℕ → List Kind) (there : List ℕ) (streams : DerivedStreams) (order : List Query) → PublishInTurn kinds there order
    → All (λ query. derived_in_turn declared streams order query.stream ≡ derived declared query.expr (derived_in_turn declared streams order)) order
in_turn_derived declared kinds there streams [] turn = All-nil _
in_turn_derived declared kinds there streams (query ∷ order) turn =
    let found = derived declared query.expr streams in
    let more = there ++ query.stream ∷ [] in
    let here = in_turn_there declared kinds more (with_derived streams query.stream found) order turn.3 query.stream (Contains-push there query.stream)
    ∙ ap (λ b. cond b found (streams query.stream)) (is_same query.stream query.stream refl) in
    let last = derived_in_turn declared streams (query ∷ order) in
    let agrees = derived_agrees declared (Contains there) streams last (λ stream has. sym (in_turn_there declared kinds there streams (query ∷ order) turn stream has)) query.expr turn.1 in
    All-cons (λ q. last q.stream ≡ derived declared q.expr last) query order (here ∙ agrees) (in_turn_derived declared kinds more (with_derived streams query.stream found) order turn.3)

-- the tuples of the events of a stream
tuples_heard : (place : ℕ) (history : List Event) (stream : ℕ) → tuples_in (derived_heard place history stream) ≡ heard_on history stream
tuples_heard place [] stream = refl
tuples_heard place (event ∷ later) stream = go (event.stream == stream) (tuples_heard (place + 1) later stream)
  where
    rest : List DerivedTuple
    rest = derived_heard (place + 1) later stream

    others : List Event
    others = filter (λ (e : Event). e.stream == stream) later

    go : (b : Bool) → tuples_in rest ≡ map (λ (e : Event). e.tuple) others → tuples_in (cond b (record { tuple = event.tuple; by = the.Event place } ∷ []) [] ++ rest) ≡ map (λ (e : Event). e.tuple) (cond b (event ∷ others) others)
    go true same = ap (λ tuples. event.tuple ∷ tuples) same
    go false same = same

pub tuples_declared : (declared : ℕ) (history : List Event) (stream : ℕ) → tuples_in (derived_declared declared history stream) ≡ declared_streams declared history stream
tuples_declared declared history stream = go (nat_lt stream declared)
  where
    go : (b : Bool) → tuples_in (cond b (derived_heard 1 history stream) []) ≡ cond b (heard_on history stream) []
    go true = tuples_heard 1 history stream
    go false = refl

-- the tuples of what queries publish in turn: by induction on the queries
tuples_in_turn : (declared : ℕ) (order : List Query) (found : DerivedStreams) (streams : Streams) → ((stream : ℕ) → tuples_in (found stream) ≡ streams stream) → All IsUnborn order
    → (stream : ℕ) → tuples_in (derived_in_turn declared found order stream) ≡ published streams order stream
tuples_in_turn declared [] found streams same unborn = same
tuples_in_turn declared (query ∷ order) found streams same unborn =
    tuples_in_turn declared order (with_derived found query.stream more) (with_stream streams query.stream tuples) (λ stream. go stream (stream == query.stream)) (All-tail IsUnborn query order unborn)
  where
    more : List DerivedTuple
    more = derived declared query.expr found

    tuples : List TupleView
    tuples = denote query.expr (streams_after query.birth streams)

    is : tuples_in more ≡ tuples
    is = tuples_derived declared found query.expr ∙ ap (denote query.expr) ((λ i stream. same stream i) ∙ sym (streams_after-none streams) ∙ ap (λ birth. streams_after birth streams) (sym (All-head IsUnborn query order unborn)))

    go : (stream : ℕ) (b : Bool) → tuples_in (cond b more (found stream)) ≡ cond b tuples (streams stream)
    go stream true = is
    go stream false = same stream

-- sound streams stay sound as queries publish: by induction on the queries
published_sound : (order : List Query) (streams : Streams) → ((stream : ℕ) → All IsSound (streams stream)) → (stream : ℕ) → All IsSound (published streams order stream)
published_sound [] streams all = all
published_sound (query ∷ order) streams all = published_sound order (with_stream streams query.stream tuples) (λ stream. go stream (stream == query.stream))
  where
    tuples : List TupleView
    tuples = denote query.expr (streams_after query.birth streams)

    go : (stream : ℕ) (b : Bool) → All IsSound (cond b tuples (streams stream))
    go stream true = denote_sound (streams_after query.birth streams) (λ s. All-filter (λ tuple. is_after query.birth tuple.at) IsSound (streams s) (all s)) query.expr
    go stream false = all stream

heard_sound : (declared : ℕ) (history : List Event) → All (λ event. IsSound event.tuple) history → (stream : ℕ) → All IsSound (declared_streams declared history stream)
heard_sound declared history all stream = go (nat_lt stream declared)
  where
    go : (b : Bool) → All IsSound (cond b (heard_on history stream) [])
    go true = All-map IsSound (λ event. event.tuple) (filter (λ event. event.stream == stream) history) (All-filter (λ event. event.stream == stream) (λ event. IsSound event.tuple) history all)
    go false = All-nil IsSound

-- the streams of a program over sound events are sound
pub env_sound : (program : Program) (history : List Event) → All (λ event. IsSound event.tuple) history → (stream : ℕ) → All IsSound (env program history stream)
env_sound program history all = published_sound program.order (declared_streams program.declared history) (heard_sound program.declared history all)

-- the tuples of a program's streams
pub tuples_env : (program : Program) (history : List Event) → All IsUnborn program.order → (stream : ℕ) → tuples_in (derived_env program history stream) ≡ env program history stream
tuples_env program history unborn =
    tuples_in_turn program.declared program.order (derived_declared program.declared history) (declared_streams program.declared history) (tuples_declared program.declared history) unborn

-- a stream is declared, or a query publishes it
abbrev pub IsThere : Program → ℕ → Type 0
IsThere program stream = (stream < program.declared) ⊎ ((e : Ex) × IsPublished program stream e)

-- no query that publishes in turn behind the declared streams publishes one of them
behind_declared : (declared : ℕ) (kinds : ℕ → List Kind) (there : List ℕ) (order : List Query) → ((stream : ℕ) → stream < declared → Contains there stream) → PublishInTurn kinds there order → All (λ query. query.stream < declared → ⊥) order
behind_declared declared kinds there [] all turn = All-nil _
behind_declared declared kinds there (query ∷ order) all turn =
    All-cons (λ q. q.stream < declared → ⊥) query order (λ lt. let below : query.stream < query.stream = All-contains (λ s. s < query.stream) there query.stream turn.0 (all query.stream lt) in absurd (omega (arith, below)))
    (behind_declared declared kinds (there ++ query.stream ∷ []) order (λ stream lt. Contains-append_left there (query.stream ∷ []) stream (all stream lt)) turn.3)

-- each query reads streams that are there: by induction on the queries
reads_there : (program : Program) (kinds : ℕ → List Kind) (there : List ℕ) (order : List Query) → ((stream : ℕ) → Contains there stream → IsThere program stream) → All (Contains program.queries) order → PublishInTurn kinds there order
    → All (λ query. ReadsOnly (IsThere program) query.expr) order
reads_there program kinds there [] all queries turn = All-nil _
reads_there program kinds there (query ∷ order) all queries turn =
    All-cons (λ q. ReadsOnly (IsThere program) q.expr) query order (reads_weaker (Contains there) (IsThere program) all query.expr turn.1)
    (reads_there program kinds (there ++ query.stream ∷ []) order more (All-tail (Contains program.queries) query order queries) turn.3)
  where
    more : (stream : ℕ) → Contains (there ++ query.stream ∷ []) stream → IsThere program stream
    more stream has = go (Contains-push_cases there query.stream stream has)
      where
        go : Contains there stream ⊎ (query.stream ≡ stream) → IsThere program stream
        go (inl one) = all stream one
        go (inr same) = inr (query.expr, record { query = query; there = All-head (Contains program.queries) query order queries; stream_is = same; expr_is = refl })

module _ (kinds : ℕ → List Kind) (program : Program) (history : List Event) (typed : IsProgram kinds program) where
  -- a fact of the queries in the order of work, by their numbers
  of_queries : (P : Query → Type 0) → All P program.order → All P program.queries
  of_queries P all = All-permutation P program.order program.queries (IsPermutation-sym program.queries program.order typed.same_queries) all

  -- and the other way round
  pub of_order : (P : Query → Type 0) → All P program.queries → All P program.order
  of_order P all = All-permutation P program.queries program.order typed.same_queries all

  -- a declared stream has its events
  pub declared_derived : (stream : ℕ) → stream < program.declared → derived_env program history stream ≡ derived_heard 1 history stream
  declared_derived stream lt =
      in_turn_there program.declared kinds (range_with_len 0 program.declared) (derived_declared program.declared history) program.order typed.in_turn stream (declared_there program.declared stream lt)
      ∙ ap (λ b. cond b (derived_heard 1 history stream) []) (is_below stream program.declared lt)

  -- a published one has what its query's expression gives
  pub published_derived : (stream : ℕ) (e : Ex) → IsPublished program stream e → derived_env program history stream ≡ derived program.declared e (derived_env program history)
  published_derived stream e is =
      let streams = derived_env program history in
      let all = of_queries (λ q. streams q.stream ≡ derived program.declared q.expr streams) (in_turn_derived program.declared kinds (range_with_len 0 program.declared) (derived_declared program.declared history) program.order typed.in_turn) in
      ap streams (sym is.stream_is) ∙ All-contains (λ q. streams q.stream ≡ derived program.declared q.expr streams) program.queries is.query all is.there ∙ ap (λ x. derived program.declared x streams) is.expr_is

  -- and isn't declared
  pub published_apart : (stream : ℕ) (e : Ex) → IsPublished program stream e → stream < program.declared → ⊥
  published_apart stream e is lt =
      All-contains (λ q. q.stream < program.declared → ⊥) program.queries is.query
      (of_queries (λ q. q.stream < program.declared → ⊥) (behind_declared program.declared kinds (range_with_len 0 program.declared) program.order (declared_there program.declared) typed.in_turn)) is.there
      (subst (λ (s : ℕ). s < program.declared) (sym is.stream_is) lt)

  -- its query reads streams that are there
  pub published_reads : (stream : ℕ) (e : Ex) → IsPublished program stream e → ReadsOnly (IsThere program) e
  published_reads stream e is =
      subst (ReadsOnly (IsThere program)) is.expr_is
      (All-contains (λ q. ReadsOnly (IsThere program) q.expr) program.queries is.query
      (of_queries (λ q. ReadsOnly (IsThere program) q.expr)
      (reads_there program kinds (range_with_len 0 program.declared) program.order (λ stream has. inl (there_declared program.declared stream has)) (of_order (Contains program.queries) (All-contains_itself program.queries)) typed.in_turn)) is.there)
