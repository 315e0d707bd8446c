-- The streams of a program over the tuples of one sort.
use Rattle.std.proofs.Common.{◌≡◌, ◌∙◌, sym, ap, refl, ℕ, ◌==◌, Bool, true, false, cond, nat_le, nat_lt, List, [], ◌∷◌, map}
use Rattle.std.specs.List.{All, filter}
use Rattle.std.proofs.lemmas.List.Elements.{All-filter, All-head, All-map, All-nil, All-tail, filter_passes}
use Rattle.std.proofs.lemmas.List.Sorted.{All-permutation, IsPermutation-sym}
use Rattle.event_types.specs.Order.{sorted, tuple_cmp}
use Rattle.event_types.specs.OrderLaws.{tuple_total}
use Rattle.event_types.specs.Tuple.{IsSound, TupleView}
use Rattle.event_types.proofs.NumberLemmas.{same_number}
use Rattle.event_types.proofs.SortLemmas.{sort_permutes}
use Rattle.semantics.specs.Births.{is_after, streams_after}
use Rattle.semantics.specs.Denotation.{Streams, denote}
use Rattle.semantics.specs.Histories.{Event, heard_on, upto}
use Rattle.semantics.specs.Programs.{Program, Query, declared_streams, env, published, with_stream}
use Rattle.semantics.specs.Results.{results}
use Rattle.semantics.proofs.ListLemmas.{filter_swap, filter-map}
use Rattle.algebra.proofs.SoundLemmas.{denote_sound}
use Rattle.history_laws.specs.LateStarts.{AreSound}
use Rattle.history_laws.proofs.SortLemmas.{filter_sorted}

-- each tuple of each stream is sound
abbrev pub AllSound : Streams → Type 0
AllSound streams = (stream : ℕ) → All IsSound (streams stream)

-- a test of the tuples of each stream
abbrev pub Sift : Type 0
Sift = ℕ → TupleView → Bool

-- the tuples that pass
abbrev pub sifted : Sift → Streams → Streams
sifted keep streams stream = filter (keep stream) (streams stream)

-- over the tuples that pass the query denotes those of its own that pass
abbrev pub Commutes : Sift → Query → Type 0
Commutes keep query = (streams : Streams) → AllSound streams → filter (keep query.stream) (denote query.expr streams) ≡ denote query.expr (sifted keep streams)

-- with one stream more whose tuples are sound, all are sound
pub with_sound : (streams : Streams) → AllSound streams → (number : ℕ) (tuples : List TupleView) → All IsSound tuples → AllSound (with_stream streams number tuples)
with_sound streams all number tuples sound stream = go (stream == number)
  where
    go : (b : Bool) → All IsSound (cond b tuples (streams stream))
    go true = sound
    go false = all stream

with_sifted : (keep : Sift) (streams : Streams) (number : ℕ) (tuples kept : List TupleView) → filter (keep number) tuples ≡ kept
    → (stream : ℕ) → filter (keep stream) (with_stream streams number tuples stream) ≡ with_stream (sifted keep streams) number kept stream
with_sifted keep streams number tuples kept e stream = go (stream == number) refl
  where
    go : (b : Bool) → (stream == number) ≡ b → filter (keep stream) (cond b tuples (streams stream)) ≡ cond b kept (filter (keep stream) (streams stream))
    go true is = ap (λ s. filter (keep s) tuples) (same_number stream number is) ∙ e
    go false is = refl

-- then so does the whole program: by induction on the queries
pub published_sifted : (keep : Sift) (order : List Query) → All (Commutes keep) order → (streams : Streams) → AllSound streams
    → (stream : ℕ) → filter (keep stream) (published streams order stream) ≡ published (sifted keep streams) order stream
published_sifted keep [] all streams sound stream = refl
published_sifted keep (query ∷ order) all streams sound stream =
    let cut = streams_after query.birth streams in
    let cut_sound = λ (s : ℕ). All-filter (λ tuple. is_after query.birth tuple.at) IsSound (streams s) (sound s) in
    let tuples = denote query.expr cut in
    let next = with_stream streams query.stream tuples in
    let kept = denote query.expr (streams_after query.birth (sifted keep streams)) in
    let swapped : sifted keep cut ≡ streams_after query.birth (sifted keep streams) = λ i s. filter_swap (keep s) (λ tuple. is_after query.birth tuple.at) (streams s) i in
    let one = All-head (Commutes keep) query order all cut cut_sound ∙ ap (denote query.expr) swapped in
    let same : sifted keep next ≡ with_stream (sifted keep streams) query.stream kept = λ i s. with_sifted keep streams query.stream tuples kept one s i in
    published_sifted keep order (All-tail (Commutes keep) query order all) next (with_sound streams sound query.stream tuples (denote_sound cut cut_sound query.expr)) stream
    ∙ ap (λ (s : Streams). published s order stream) same

-- what was heard of sound events is sound
pub heard_sound : (declared : ℕ) (history : List Event) → AreSound history → AllSound (declared_streams declared history)
heard_sound declared history all stream = go (nat_lt stream declared)
  where
    on : Event → Bool
    on event = event.stream == stream

    go : (b : Bool) → All IsSound (cond b (heard_on history stream) [])
    go true = All-map IsSound (λ (event : Event). event.tuple) (filter on history) (All-filter on (λ event. IsSound event.tuple) history all)
    go false = All-nil IsSound

-- the results that pass
pub results_sifted : (keep : Sift) (program : Program) → All (Commutes keep) program.order → (history : List Event) → AreSound history → (stream time : ℕ)
    → filter (keep stream) (results program history stream time) ≡ sorted (filter (λ tuple. tuple.at == time) (published (sifted keep (declared_streams program.declared (upto time history))) program.order stream))
results_sifted keep program all history sound stream time =
    let streams = declared_streams program.declared (upto time history) in
    let now : TupleView → Bool = λ tuple. tuple.at == time in
    filter_sorted (keep stream) (filter now (published streams program.order stream))
    ∙ ap sorted (filter_swap (keep stream) now (published streams program.order stream)
    ∙ ap (filter now) (published_sifted keep program.order all streams (heard_sound program.declared (upto time history) (All-filter (λ event. nat_le event.tuple.at time) (λ event. IsSound event.tuple) history sound)) stream))

-- what was heard on a stream by a time
pub heard_on-upto : (time stream : ℕ) (history : List Event) → heard_on (upto time history) stream ≡ filter (λ tuple. nat_le tuple.at time) (heard_on history stream)
heard_on-upto time stream history =
    let on : Event → Bool = λ event. event.stream == stream in
    let early : Event → Bool = λ event. nat_le event.tuple.at time in
    ap (map (λ (event : Event). event.tuple)) (filter_swap on early history) ∙ sym (filter-map (λ (tuple : TupleView). nat_le tuple.at time) (λ (event : Event). event.tuple) (filter on history))

-- each result is detected at its time
pub results_now : (program : Program) (history : List Event) (stream time : ℕ) → All (λ tuple. (tuple.at == time) ≡ true) (results program history stream time)
results_now program history stream time =
    let found = filter (λ (tuple : TupleView). tuple.at == time) (env program (upto time history) stream) in
    All-permutation (λ tuple. (tuple.at == time) ≡ true) found (sorted found) (IsPermutation-sym (sorted found) found (sort_permutes tuple_cmp tuple_total found))
    (filter_passes (λ (tuple : TupleView). tuple.at == time) (env program (upto time history) stream))
