-- The streams of a program by its statements, and programs that share some.
use Rattle.std.proofs.Common.{◌≡◌, ◌∙◌, sym, ap, refl, subst, ℕ, ◌+◌, ◌<◌, ◌==◌, nat_le, Bool, true, false, cond, get_or, List, [], ◌∷◌, ◌++◌, map, ◌⊎◌, inl, inr, arith}
use Rattle.std.specs.Prelude.{Contains, IsTrue, Option}
use Rattle.std.specs.List.{All, filter, range_with_len}
use Rattle.std.proofs.lemmas.Bool.{true≢false}
use Rattle.std.proofs.lemmas.List.Elements.{All-nil, All-cons, All-contains, All-head, All-tail, All-weaker, Contains-append_left, Contains-push, Contains-push_cases}
use Rattle.std.proofs.lemmas.List.FromFn.{get_or-range_with_len, length-range_with_len}
use Rattle.std.proofs.lemmas.List.Sorted.{All-permutation, IsPermutation-sym}
use Rattle.event_types.specs.declared.kind.Kind.{Kind}
use Rattle.event_types.specs.Order.{sorted}
use Rattle.event_types.specs.Tuple.{TupleView}
use Rattle.semantics.specs.Births.{after, is_after, streams_after}
use Rattle.semantics.specs.Denotation.{Streams, denote}
use Rattle.semantics.specs.Expressions.{Ex}
use Rattle.semantics.specs.Histories.{Event, heard_on, upto}
use Rattle.semantics.specs.Programs.{Program, Query, declared_streams, env, published, with_stream}
use Rattle.semantics.specs.Reading.{ReadsOnly, renumbered}
use Rattle.semantics.specs.Results.{results}
use Rattle.semantics.specs.Statements.{HaveSameStatements, HearTheSame, Publishes}
use Rattle.semantics.specs.TypedPrograms.{IsProgram, PublishInTurn}
use Rattle.semantics.proofs.BirthLemmas.{denoted_after}
use Rattle.semantics.proofs.ListLemmas.{filter_swap, filter-map}
use Rattle.semantics.proofs.ReportLemmas.{filter_none}
use Rattle.semantics.proofs.ReadingLemmas.{denote_agrees, denote-renumbered, reads_both}
use Rattle.event_types.proofs.NumberLemmas.{is_same, is_other, is_below}

-- the declared streams have the first numbers
pub declared_there : (declared stream : ℕ) → stream < declared → Contains (range_with_len 0 declared) stream
declared_there declared stream lt =
    let at : 0 + stream ≡ stream = omega arith in
    (stream, subst (λ n. stream < n) (sym (length-range_with_len 0 declared)) lt, get_or-range_with_len 0 declared stream stream lt ∙ at)

-- and no other stream has one of these
pub there_declared : (declared stream : ℕ) → Contains (range_with_len 0 declared) stream → stream < declared
there_declared declared stream has =
    let within : has.0 < declared = subst (λ n. has.0 < n) (length-range_with_len 0 declared) has.1 in
    let same : 0 + has.0 ≡ stream = sym (get_or-range_with_len 0 declared has.0 stream within) ∙ has.2 in omega arith

-- a stream that is put at a number is there, and the others stay
with_stream_same : (streams : Streams) (number : ℕ) (tuples : List TupleView) → with_stream streams number tuples number ≡ tuples
with_stream_same streams number tuples = ap (λ b. cond b tuples (streams number)) (is_same number number refl)

with_stream_other : (streams : Streams) (number : ℕ) (tuples : List TupleView) (stream : ℕ) → (stream ≡ number → ⊥) → with_stream streams number tuples stream ≡ streams stream
with_stream_other streams number tuples stream other = ap (λ b. cond b tuples (streams stream)) (is_other stream number other)

-- queries that publish in turn leave the streams that are there: by induction on the queries
published_there : (kinds : ℕ → List Kind) (there : List ℕ) (streams : Streams) (order : List Query) → PublishInTurn kinds there order → (stream : ℕ) → Contains there stream → published streams order stream ≡ streams stream
published_there kinds there streams [] turn stream has = refl
published_there kinds there streams (query ∷ order) turn stream has =
    let tuples = denote query.expr (streams_after query.birth streams) in
    let rest = published_there kinds (there ++ query.stream ∷ []) (with_stream streams query.stream tuples) order turn.3 stream (Contains-append_left there (query.stream ∷ []) stream has) in
    let below : stream < query.stream = All-contains (λ s. s < query.stream) there stream turn.0 has in
    let other : stream ≡ query.stream → ⊥ = λ same. absurd (omega arith) in rest ∙ with_stream_other streams query.stream tuples stream other

-- each query's stream is what its expression denotes in the end: by induction on the queries
published_denoted : (kinds : ℕ → List Kind) (there : List ℕ) (streams : Streams) (order : List Query) → PublishInTurn kinds there order
    → All (λ query. published streams order query.stream ≡ denote query.expr (streams_after query.birth (published streams order))) order
published_denoted kinds there streams [] turn = All-nil _
published_denoted kinds there streams (query ∷ order) turn =
    let tuples = denote query.expr (streams_after query.birth streams) in
    let more = there ++ query.stream ∷ [] in
    let here = published_there kinds more (with_stream streams query.stream tuples) order turn.3 query.stream (Contains-push there query.stream) ∙ with_stream_same streams query.stream tuples in
    let last = published streams (query ∷ order) in
    let agrees =
    denote_agrees (Contains there) (streams_after query.birth streams) (streams_after query.birth last) (λ stream has. ap (after query.birth) (sym (published_there kinds there streams (query ∷ order) turn stream has)))
    query.expr turn.1 in
    All-cons (λ q. last q.stream ≡ denote q.expr (streams_after q.birth last)) query order (here ∙ agrees) (published_denoted kinds more (with_stream streams query.stream tuples) order turn.3)

-- a declared stream has what was heard on it
pub declared_is : (kinds : ℕ → List Kind) (program : Program) (history : List Event) → IsProgram kinds program → (stream : ℕ) → stream < program.declared → env program history stream ≡ heard_on history stream
declared_is kinds program history typed stream lt =
    published_there kinds (range_with_len 0 program.declared) (declared_streams program.declared history) program.order typed.in_turn stream (declared_there program.declared stream lt)
    ∙ ap (λ b. cond b (heard_on history stream) []) (is_below stream program.declared lt)

-- a query's stream has what its expression denotes over the streams of the program after its birth
pub published_is : (kinds : ℕ → List Kind) (program : Program) (history : List Event) → IsProgram kinds program → All (λ query. env program history query.stream ≡ denote query.expr (streams_after query.birth (env program history))) program.queries
published_is kinds program history typed =
    All-permutation (λ query. env program history query.stream ≡ denote query.expr (streams_after query.birth (env program history))) program.order program.queries (IsPermutation-sym program.queries program.order typed.same_queries)
    (published_denoted kinds (range_with_len 0 program.declared) (declared_streams program.declared history) program.order typed.in_turn)

-- a tuple that is detected after a birth isn't detected at a time that isn't
then_is_late : (birth : Option ℕ) (time at : ℕ) → is_after birth time ≡ false → is_after birth at ≡ true → at == time ≡ false
then_is_late birth time at early late = is_other at time (λ same. true≢false (sym late ∙ ap (is_after birth) same ∙ early))

-- a query has no results at a time that isn't after its birth
pub no_results : (kinds : ℕ → List Kind) (program : Program) (history : List Event) → IsProgram kinds program
    → All (λ query. (time : ℕ) → is_after query.birth time ≡ false → results program history query.stream time ≡ []) program.queries
no_results kinds program history typed = λ k d lt time early.
    let query = get_or program.queries k d in
    let is = published_is kinds program (upto time history) typed k d lt in
    let late = All-weaker (λ tuple. is_after query.birth tuple.at ≡ true) (λ tuple. tuple.at == time ≡ false) (λ tuple h. then_is_late query.birth time tuple.at early h)
    (denote query.expr (streams_after query.birth (env program (upto time history)))) (denoted_after query.birth (env program (upto time history)) query.expr) in
    ap (λ tuples. sorted (filter (λ (tuple : TupleView). tuple.at == time) tuples)) is
    ∙ ap sorted (filter_none (λ tuple. tuple.at == time) (denote query.expr (streams_after query.birth (env program (upto time history)))) late)

-- what was heard on a stream by a time
heard_on-upto : (time stream : ℕ) (history : List Event) → heard_on (upto time history) stream ≡ filter (λ tuple. nat_le tuple.at time) (heard_on history stream)
heard_on-upto time stream history =
    let on : Event → Bool = λ event. event.stream == stream in
    let early : Event → Bool = λ event. nat_le event.tuple.at time in
    ap (map (λ (event : Event). event.tuple)) (filter_swap on early history) ∙ sym (filter-map (λ (tuple : TupleView). nat_le tuple.at time) (λ (event : Event). event.tuple) (filter on history))

-- what a query's stream has in the other program, where it is shared
abbrev IsFollowed : (ℕ → Bool) → (ℕ → ℕ) → Streams → Query → Type 0
IsFollowed is_shared number others query = IsTrue (is_shared query.stream) → ReadsOnly (λ stream. IsTrue (is_shared stream)) query.expr × (others (number query.stream) ≡ denote (renumbered number query.expr) (streams_after query.birth others))

-- shared streams of those that are there agree
abbrev AgreeOn : (ℕ → Bool) → (ℕ → ℕ) → Streams → Streams → List ℕ → Type 0
AgreeOn is_shared number streams others there = (stream : ℕ) → Contains there stream → IsTrue (is_shared stream) → streams stream ≡ others (number stream)

-- then a shared stream that is published next agrees
next_agrees : (is_shared : ℕ → Bool) (number : ℕ → ℕ) (streams others : Streams) (there : List ℕ) (query : Query)
    → ReadsOnly (Contains there) query.expr → streams query.stream ≡ denote query.expr (streams_after query.birth streams) → IsFollowed is_shared number others query → AgreeOn is_shared number streams others there
    → IsTrue (is_shared query.stream) → streams query.stream ≡ others (number query.stream)
next_agrees is_shared number streams others there query reads is followed agree shared =
    let told = followed shared in
    let both = reads_both (Contains there) (λ stream. IsTrue (is_shared stream)) query.expr reads told.0 in
    let cut = streams_after query.birth others in
    is
    ∙ denote_agrees (λ stream. Contains there stream × IsTrue (is_shared stream)) (streams_after query.birth streams) (λ stream. cut (number stream)) (λ stream so. ap (after query.birth) (agree stream so.0 so.1)) query.expr both
    ∙ sym (told.1 ∙ denote-renumbered number cut query.expr)

-- so all shared streams that are published in turn agree: by induction on the queries
all_agree : (is_shared : ℕ → Bool) (number : ℕ → ℕ) (streams others : Streams) (kinds : ℕ → List Kind) (there : List ℕ) (order : List Query)
    → PublishInTurn kinds there order → All (λ query. streams query.stream ≡ denote query.expr (streams_after query.birth streams)) order → All (IsFollowed is_shared number others) order → AgreeOn is_shared number streams others there
    → All (λ query. IsTrue (is_shared query.stream) → streams query.stream ≡ others (number query.stream)) order
all_agree is_shared number streams others kinds there [] turn is followed agree = All-nil _
all_agree is_shared number streams others kinds there (query ∷ order) turn is followed agree =
    All-cons (λ q. IsTrue (is_shared q.stream) → streams q.stream ≡ others (number q.stream)) query order here
    (all_agree is_shared number streams others kinds (there ++ query.stream ∷ []) order turn.3 (All-tail (λ q. streams q.stream ≡ denote q.expr (streams_after q.birth streams)) query order is) (All-tail (IsFollowed is_shared number others) query order followed) more)
  where
    here : IsTrue (is_shared query.stream) → streams query.stream ≡ others (number query.stream)
    here = next_agrees is_shared number streams others there query turn.1 (All-head (λ q. streams q.stream ≡ denote q.expr (streams_after q.birth streams)) query order is) (All-head (IsFollowed is_shared number others) query order followed) agree

    more : AgreeOn is_shared number streams others (there ++ query.stream ∷ [])
    more stream has = go (Contains-push_cases there query.stream stream has)
      where
        go : Contains there stream ⊎ (query.stream ≡ stream) → IsTrue (is_shared stream) → streams stream ≡ others (number stream)
        go (inl was) = agree stream was
        go (inr same) = subst (λ (s : ℕ). IsTrue (is_shared s) → streams s ≡ others (number s)) same here

-- the query that publishes a stream in the other program tells what it has
publisher_is : (kinds : ℕ → List Kind) (program : Program) (history : List Event) → IsProgram kinds program → (stream : ℕ) (expr : Ex) (birth : Option ℕ) → Publishes program stream expr birth
    → env program history stream ≡ denote expr (streams_after birth (env program history))
publisher_is kinds program history typed stream expr birth found =
    let streams = env program history in
    let is = All-contains (λ query. streams query.stream ≡ denote query.expr (streams_after query.birth streams)) program.queries found.0 (published_is kinds program history typed) found.1 in
    ap streams (sym found.2) ∙ is ∙ (λ i. denote (found.3 i) (streams_after (found.4 i) streams))

-- the streams that two programs share agree over histories that agree
shared_agree : (is_shared : ℕ → Bool) (number : ℕ → ℕ) (kinds other_kinds : ℕ → List Kind) (program other : Program) (history others : List Event)
    → IsProgram kinds program → IsProgram other_kinds other → HaveSameStatements is_shared number program other → HearTheSame is_shared number program.declared history others
    → All (λ query. IsTrue (is_shared query.stream) → env program history query.stream ≡ env other others (number query.stream)) program.queries
shared_agree is_shared number kinds other_kinds program other history others typed other_typed same hear =
    let streams = env program history in
    let there = env other others in
    let followed =
    All-weaker (λ q. IsTrue (is_shared q.stream) → ReadsOnly (λ stream. IsTrue (is_shared stream)) q.expr × Publishes other (number q.stream) (renumbered number q.expr) q.birth) (IsFollowed is_shared number there)
    (λ q told shared. let one = told shared in (one.0, publisher_is other_kinds other others other_typed (number q.stream) (renumbered number q.expr) q.birth one.1)) program.queries same.published in
    let declared = λ (stream : ℕ) (has : Contains (range_with_len 0 program.declared) stream) (shared : IsTrue (is_shared stream)).
    let lt = there_declared program.declared stream has in
    declared_is kinds program history typed stream lt ∙ hear stream shared lt ∙ sym (declared_is other_kinds other others other_typed (number stream) (same.declared stream shared lt)) in
    All-permutation (λ q. IsTrue (is_shared q.stream) → streams q.stream ≡ there (number q.stream)) program.order program.queries (IsPermutation-sym program.queries program.order typed.same_queries)
    (all_agree is_shared number streams there kinds (range_with_len 0 program.declared) program.order typed.in_turn
    (published_denoted kinds (range_with_len 0 program.declared) (declared_streams program.declared history) program.order typed.in_turn)
    (All-permutation (IsFollowed is_shared number there) program.queries program.order typed.same_queries followed) declared)

-- so have their results at each time
pub same_results : (is_shared : ℕ → Bool) (number : ℕ → ℕ) (kinds other_kinds : ℕ → List Kind) (program other : Program) (history others : List Event)
    → IsProgram kinds program → IsProgram other_kinds other → HaveSameStatements is_shared number program other → HearTheSame is_shared number program.declared history others
    → All (λ query. IsTrue (is_shared query.stream) → (time : ℕ) → results program history query.stream time ≡ results other others (number query.stream) time) program.queries
same_results is_shared number kinds other_kinds program other history others typed other_typed same hear = λ k d lt shared time.
    ap (λ tuples. sorted (filter (λ (tuple : TupleView). tuple.at == time) tuples))
    (shared_agree is_shared number kinds other_kinds program other (upto time history) (upto time others) typed other_typed same (early time) k d lt shared)
  where
    early : (time : ℕ) → HearTheSame is_shared number program.declared (upto time history) (upto time others)
    early time stream shared lt =
        heard_on-upto time stream history ∙ ap (filter (λ (tuple : TupleView). nat_le tuple.at time)) (hear stream shared lt) ∙ sym (heard_on-upto time (number stream) others)
