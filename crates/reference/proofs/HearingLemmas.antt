-- An evaluator that hears one more event.
use Rattle.std.proofs.Common.{◌≡◌, ◌∙◌, sym, ap, refl, ℕ, ◌+◌, ◌<◌, ◌==◌, nat_lt, Bool, true, false, cond, nat_le, ◌≤◌, length, get_or, set, List, [], ◌∷◌, ◌++◌, map, append-nil, subst}
use Rattle.std.specs.Prelude.{Result, Ok, Err, IfOk, Some, slice_get}
use Rattle.std.specs.List.{All, filter}
use Rattle.std.proofs.lemmas.List.{length-append, length-set, get_or-set_other, map-append, set-get_or}
use Rattle.std.proofs.lemmas.Option.{get_or_from_slice_get}
use Rattle.std.proofs.lemmas.List.Elements.{All-weaker, filter-append}
use Rattle.std.proofs.lemmas.Grind.{get_or-set_at}
use Rattle.event_types.specs.Tuple.{TupleView}
use Rattle.event_types.specs.Order.{sorted}
use Rattle.event_types.specs.declared.memory.Memory.{Memory}
use Rattle.semantics.specs.Denotation.{Streams, streams_of}
use Rattle.semantics.specs.Histories.{Event, heard_on, upto}
use Rattle.semantics.specs.Programs.{declared_streams, published, with_stream}
use Rattle.semantics.specs.Results.{results}
use Rattle.semantics.proofs.ReportLemmas.{filter_all}
use Rattle.reference.specs.declared.query.Query.{Query}
use Rattle.reference.specs.Hearing.{HasHeard}
use Rattle.reference.specs.Views.{placed, program_of}
use Rattle.reference.proofs.StreamLemmas.{streams_of-push}
use Rattle.event_types.proofs.NumberLemmas.{same_number, other_number, is_same, is_other, is_below}
use Rattle.reference.proofs.NumberLemmas.{is_at_most}

-- what was heard on a stream after one more event
heard_on-append : (history : List Event) (event : Event) (stream : ℕ) (b : Bool) → (event.stream == stream) ≡ b → heard_on (history ++ event ∷ []) stream ≡ heard_on history stream ++ cond b (event.tuple ∷ []) []
heard_on-append history event stream b e =
    let test : Event → Bool = λ h. h.stream == stream in
    ap (map (λ (h : Event). h.tuple)) (filter-append test history (event ∷ [])) ∙ map-append (λ (h : Event). h.tuple) (filter test history) (filter test (event ∷ [])) ∙ last
  where
    last : heard_on history stream ++ map (λ (h : Event). h.tuple) (cond (event.stream == stream) (event ∷ []) []) ≡ heard_on history stream ++ cond b (event.tuple ∷ []) []
    last = ap (λ c. heard_on history stream ++ map (λ (h : Event). h.tuple) (cond c (event ∷ []) [])) e ∙ go b
      where
        go : (c : Bool) → heard_on history stream ++ map (λ (h : Event). h.tuple) (cond c (event ∷ []) []) ≡ heard_on history stream ++ cond c (event.tuple ∷ []) []
        go true = refl
        go false = refl

-- a declared stream has what was heard on it
declared_at : (declared : ℕ) (history : List Event) (stream : ℕ) → stream < declared → declared_streams declared history stream ≡ heard_on history stream
declared_at declared history stream lt = ap (λ b. cond b (heard_on history stream) []) (is_below stream declared lt)

-- the stream of the event has it at its end
this_stream : (declared : ℕ) (history : List Event) (stream : ℕ) (tuple : TupleView) → stream < declared → declared_streams declared history stream ++ tuple ∷ [] ≡ declared_streams declared (history ++ record { stream = stream; tuple = tuple } ∷ []) stream
this_stream declared history stream tuple lt =
    let event : Event = record { stream = stream; tuple = tuple } in
    ap (λ tuples. tuples ++ tuple ∷ []) (declared_at declared history stream lt) ∙ sym (declared_at declared (history ++ event ∷ []) stream lt ∙ heard_on-append history event stream true (is_same stream stream refl))

-- each other stream stays
other_stream : (declared : ℕ) (history : List Event) (event : Event) (stream : ℕ) → (event.stream ≡ stream → ⊥) → declared_streams declared history stream ≡ declared_streams declared (history ++ event ∷ []) stream
other_stream declared history event stream other =
    sym (ap (λ tuples. cond (nat_lt stream declared) tuples []) (heard_on-append history event stream false (is_other event.stream stream other) ∙ append-nil (heard_on history stream)))

-- so it has heard the event too
hears_event : (declared : ℕ) (history : List Event) (lists : List (List TupleView)) (stream : ℕ) (tuple : TupleView) → stream < length lists → HasHeard declared history lists
    → HasHeard declared (history ++ record { stream = stream; tuple = tuple } ∷ []) (set lists stream (get_or lists stream [] ++ tuple ∷ []))
hears_event declared history lists stream tuple lt h = record { as_many = length-set lists stream more ∙ h.as_many; heard = λ i n. each n i }
  where
    more : List TupleView
    more = get_or lists stream [] ++ tuple ∷ []

    event : Event
    event = record { stream = stream; tuple = tuple }

    each : (n : ℕ) → streams_of (set lists stream more) n ≡ declared_streams declared (history ++ event ∷ []) n
    each n = go (n == stream) refl
      where
        go : (b : Bool) → (n == stream) ≡ b → streams_of (set lists stream more) n ≡ declared_streams declared (history ++ event ∷ []) n
        go true e =
            let same = same_number n stream e in
            get_or-set_at lists stream n more [] same lt ∙ ap (λ tuples. tuples ++ tuple ∷ []) (λ i. h.heard i stream)
            ∙ this_stream declared history stream tuple (subst (λ (k : ℕ). stream < k) h.as_many lt) ∙ ap (λ k. declared_streams declared (history ++ event ∷ []) k) (sym same)
        go false e =
            let other = other_number n stream e in
            get_or-set_other lists stream n more [] other ∙ (λ i. h.heard i n) ∙ other_stream declared history event n (λ same. other (sym same))

-- the same of a list that was read and put back longer
pub hears_it : (lists : List (List TupleView)) (stream : ℕ) (tuple : TupleView) (old new : List TupleView) → stream < length lists → slice_get lists stream ≡ Some old → new ≡ old ++ tuple ∷ []
    → (declared : ℕ) (history : List Event) → HasHeard declared history lists → HasHeard declared (history ++ record { stream = stream; tuple = tuple } ∷ []) (set lists stream new)
hears_it lists stream tuple old new lt read longer declared history h =
    subst (λ (list : List TupleView). HasHeard declared (history ++ record { stream = stream; tuple = tuple } ∷ []) (set lists stream list))
    (ap (λ list. list ++ tuple ∷ []) (get_or_from_slice_get lists stream old [] read) ∙ sym longer) (hears_event declared history lists stream tuple lt h)

-- a list that was read and put back as it was
pub put_back : (lists : List (List TupleView)) (stream : ℕ) (old new : List TupleView) → slice_get lists stream ≡ Some old → new ≡ old → set lists stream new ≡ lists
put_back lists stream old new read same = ap (set lists stream) (same ∙ sym (get_or_from_slice_get lists stream old [] read)) ∙ set-get_or lists stream []

-- where nothing was heard each stream is empty
nothing_heard : (declared stream : ℕ) → declared_streams declared [] stream ≡ []
nothing_heard declared stream = elim (nat_lt stream declared) as (λ b. cond b (heard_on [] stream) [] ≡ []) [ true ↦ refl | false ↦ refl ]

-- one more declared stream, on which nothing was heard
pub one_more_stream : (declared : ℕ) (lists : List (List TupleView)) → HasHeard declared [] lists → HasHeard (declared + 1) [] (lists ++ [] ∷ [])
one_more_stream declared lists h =
    record { as_many = length-append lists ([] ∷ []) ∙ ap (λ n. n + 1) h.as_many; heard = streams_of-push lists [] ∙ λ i n. each n i }
  where
    each : (n : ℕ) → with_stream (streams_of lists) (length lists) [] n ≡ declared_streams (declared + 1) [] n
    each n = go (n == length lists) ∙ sym (nothing_heard (declared + 1) n)
      where
        go : (b : Bool) → cond b [] (streams_of lists n) ≡ []
        go true = refl
        go false = (λ i. h.heard i n) ∙ nothing_heard declared n

-- where all events are detected by a time, all are heard by it
pub upto_all : (time : ℕ) (history : List Event) → All (λ event. event.tuple.at ≤ time) history → upto time history ≡ history
upto_all time history all =
    filter_all (λ (event : Event). nat_le event.tuple.at time) history (All-weaker (λ event. event.tuple.at ≤ time) (λ event. nat_le event.tuple.at time ≡ true) (λ event le. is_at_most event.tuple.at time le) history all)

-- the batch is the results over each history that was heard
abbrev pub IsBatch : List Query → List ℕ → ℕ → Result (List (List TupleView)) Memory → List (List TupleView) → Type 0
IsBatch queries places time result lists =
    IfOk result (λ batch. (declared : ℕ) (history : List Event) → HasHeard declared history lists → All (λ event. event.tuple.at ≤ time) history
    → batch ≡ map (λ (query : Query). results (program_of declared queries places) history query.stream time) queries)

-- what the published streams have at a time is the results
pub batch_is : (queries : List Query) (places : List ℕ) (time : ℕ) (lists : List (List TupleView)) (result : Result (List (List TupleView)) Memory)
    → IfOk result (λ batch. batch ≡ map (λ (query : Query). sorted (filter (λ (tuple : TupleView). tuple.at == time) (published (streams_of lists) (placed queries places) query.stream))) queries)
    → IsBatch queries places time result lists
batch_is queries places time lists (Ok batch) e = λ declared history h all. e ∙ (λ i. at (h.heard i)) ∙ ap (λ events. at (declared_streams declared events)) (sym (upto_all time history all))
  where
    at : Streams → List (List TupleView)
    at streams = map (λ (query : Query). sorted (filter (λ (tuple : TupleView). tuple.at == time) (published streams (placed queries places) query.stream))) queries
batch_is queries places time lists (Err memory) e = e
