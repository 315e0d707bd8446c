-- The result lines of an epoch, stream by stream.
use Rattle.std.proofs.Common.{◌≡◌, ◌∙◌, sym, ap, refl, subst, ℕ, zero, suc, ◌+◌, ◌<◌, ◌≤◌, List, [], ◌∷◌, ◌++◌, get_or, length, map, take, append_assoc, append-nil, Option, Some, slice_get, arith}
use Rattle.std.specs.List.{All, flat_map}
use Rattle.std.specs.Option.{option_to_list}
use Rattle.std.proofs.lemmas.Grind.{flat_map-append}
use Rattle.std.proofs.lemmas.Option.{slice_get-get_or}
use Rattle.std.proofs.lemmas.List.{get_or-map, get_or_default, take_all, take_more}
use Rattle.std.proofs.lemmas.List.Elements.{All-cons, All-get_or, All-head, All-nil, All-tail}
use Rattle.event_types.specs.Tuple.{TupleView}
use Rattle.semantics.specs.Denotation.{Streams, streams_of}
use Rattle.semantics.specs.Histories.{Event}
use Rattle.semantics.specs.Programs.{Program, Query}
use Rattle.semantics.specs.Report.{line, lines_at}
use Rattle.semantics.specs.Results.{results}
use Rattle.stream_schema.specs.Streams.{Entry}
use Rattle.epoch_draft.specs.Made.{ArePlaced, placed}
use Rattle.epoch_engine.specs.Results.{result_of, results_of}
use Rattle.session.specs.BatchLines.{batch_lines}
use Rattle.session.specs.Fronts.{name_in}

-- the lines of one tuple more, which stands at the next place
pub placed_more : (tuples : List TupleView) (places : List ℕ) (i place : ℕ) (old now new name : List ℕ) → i < length places → get_or places i 0 ≡ place → All (λ p. p < length tuples) places
    → ((tuple : TupleView) → slice_get tuples place ≡ Some tuple → new ≡ now ++ line name tuple)
    → now ≡ old ++ flat_map (line name) (placed tuples (take i places)) → new ≡ old ++ flat_map (line name) (placed tuples (take (i + 1) places))
placed_more tuples places i place old now new name lt at below put was =
    put tuple found ∙ ap (λ rows. rows ++ line name tuple) was ∙ append_assoc old (flat_map (line name) before) (line name tuple)
    ∙ ap (λ rows. old ++ (flat_map (line name) before ++ rows)) (sym (append-nil (line name tuple)))
    ∙ ap (λ rows. old ++ rows) (sym (flat_map-append (line name) before (tuple ∷ [])))
    ∙ ap (λ (ts : List TupleView). old ++ flat_map (line name) ts) (sym more)
  where
    before : List TupleView
    before = placed tuples (take i places)

    none : TupleView
    none = record { vals = []; from = 0; at = 0 }

    tuple : TupleView
    tuple = get_or tuples place none

    found : slice_get tuples place ≡ Some tuple
    found = slice_get-get_or tuples place none (subst (λ p. p < length tuples) at (All-get_or (λ p. p < length tuples) places i 0 lt below))

    one : placed tuples (place ∷ []) ≡ tuple ∷ []
    one = ap (λ (o : Option TupleView). option_to_list o ++ []) found

    more : placed tuples (take (i + 1) places) ≡ before ++ tuple ∷ []
    more = ap (placed tuples) (take_more places i 0 lt ∙ ap (λ p. take i places ++ p ∷ []) at)
        ∙ flat_map-append (λ p. option_to_list (slice_get tuples p)) (take i places) (place ∷ []) ∙ ap (λ (ts : List TupleView). before ++ ts) one

-- what is so of streams and of those of them that have tuples
module _ (P : ℕ → Type 0) where
  one_given : (stream : ℕ) (tuples : List TupleView) (rest : List (ℕ × List TupleView)) → P stream → All (λ result. P result.0) rest → All (λ result. P result.0) (result_of stream tuples ++ rest)
  one_given stream [] rest here all = all
  one_given stream (tuple ∷ tuples) rest here all = All-cons (λ (result : ℕ × List TupleView). P result.0) (stream, tuple ∷ tuples) rest here all

  -- what is so of all streams, by induction on these
  pub all_given : (tuples_of : Streams) (streams : List ℕ) → All P streams → All (λ result. P result.0) (results_of streams tuples_of)
  all_given tuples_of [] all = All-nil (λ (result : ℕ × List TupleView). P result.0)
  all_given tuples_of (stream ∷ streams) all =
      one_given stream (tuples_of stream) (results_of streams tuples_of) (All-head P stream streams all) (all_given tuples_of streams (All-tail P stream streams all))

  given_first : (stream : ℕ) (tuples : List TupleView) (rest : List (ℕ × List TupleView)) → 0 < length tuples → All (λ result. P result.0) (result_of stream tuples ++ rest) → P stream
  given_first stream [] rest some all = absurd (omega (arith, some))
  given_first stream (tuple ∷ tuples) rest some all = All-head (λ (result : ℕ × List TupleView). P result.0) (stream, tuple ∷ tuples) rest all

  given_others : (stream : ℕ) (tuples : List TupleView) (rest : List (ℕ × List TupleView)) → All (λ result. P result.0) (result_of stream tuples ++ rest) → All (λ result. P result.0) rest
  given_others stream [] rest all = all
  given_others stream (tuple ∷ tuples) rest all = All-tail (λ (result : ℕ × List TupleView). P result.0) (stream, tuple ∷ tuples) rest all

  -- what is so of those that have tuples is so of each of them, by induction on the streams
  pub given_at : (tuples_of : Streams) (streams : List ℕ) (i : ℕ) → i < length streams → 0 < length (tuples_of (get_or streams i 0)) → All (λ result. P result.0) (results_of streams tuples_of) → P (get_or streams i 0)
  given_at tuples_of [] i less some all = absurd (omega (arith, less))
  given_at tuples_of (stream ∷ streams) zero less some all = given_first stream (tuples_of stream) (results_of streams tuples_of) some all
  given_at tuples_of (stream ∷ streams) (suc i) less some all =
      given_at tuples_of streams i (omega (arith, less)) some (given_others stream (tuples_of stream) (results_of streams tuples_of) all)

module _ (entries : List Entry) where
  -- the result lines of a stream
  abbrev pub stream_lines : Streams → ℕ → List ℕ
  stream_lines tuples_of stream = flat_map (line (name_in entries stream)) (tuples_of stream)

  one_stream : (stream : ℕ) (tuples : List TupleView) (rest : List (ℕ × List TupleView)) → batch_lines entries (result_of stream tuples ++ rest) ≡ flat_map (line (name_in entries stream)) tuples ++ batch_lines entries rest
  one_stream stream [] rest = refl
  one_stream stream (tuple ∷ tuples) rest = refl

  -- the lines of results are those of their streams, by induction on these
  pub lines_by_streams : (streams : List ℕ) (tuples_of : Streams) → batch_lines entries (results_of streams tuples_of) ≡ flat_map (stream_lines tuples_of) streams
  lines_by_streams [] tuples_of = refl
  lines_by_streams (stream ∷ streams) tuples_of =
      one_stream stream (tuples_of stream) (results_of streams tuples_of) ∙ ap (λ lines. stream_lines tuples_of stream ++ lines) (lines_by_streams streams tuples_of)

  -- the lines of one stream more
  pub stream_more : (tuples_of : Streams) (streams : List ℕ) (i : ℕ) (old now new : List ℕ) → i < length streams → new ≡ now ++ stream_lines tuples_of (get_or streams i 0)
      → now ≡ old ++ flat_map (stream_lines tuples_of) (take i streams) → new ≡ old ++ flat_map (stream_lines tuples_of) (take (i + 1) streams)
  stream_more tuples_of streams i old now new lt e was =
      let stream = get_or streams i 0 in
      let before = flat_map (stream_lines tuples_of) (take i streams) in
      e ∙ ap (λ rows. rows ++ stream_lines tuples_of stream) was ∙ append_assoc old before (stream_lines tuples_of stream)
      ∙ ap (λ rows. old ++ (before ++ rows)) (sym (append-nil (stream_lines tuples_of stream)))
      ∙ ap (λ rows. old ++ rows) (sym (flat_map-append (stream_lines tuples_of) (take i streams) (stream ∷ [])) ∙ ap (flat_map (stream_lines tuples_of)) (sym (take_more streams i 0 lt)))

-- of streams that have the names of queries, the lines of the results at a time are those of the queries, by induction on these
pub lines_are : (entries : List Entry) (program : Program) (history : List Event) (time : ℕ) (queries : List Query) → All (λ query. name_in entries query.stream ≡ query.name) queries
    → flat_map (stream_lines entries (λ stream. results program history stream time)) (map (λ query. query.stream) queries) ≡ flat_map (lines_at program history time) queries
lines_are entries program history time [] named = refl
lines_are entries program history time (query ∷ queries) named =
    let name : name_in entries query.stream ≡ query.name = All-head (λ (q : Query). name_in entries q.stream ≡ q.name) query queries named in
    let rest = lines_are entries program history time queries (All-tail (λ (q : Query). name_in entries q.stream ≡ q.name) query queries named) in
    λ i. flat_map (line (name i)) (results program history query.stream time) ++ rest i

-- there are as many tuples as places, by induction on these
placed_many : (tuples : List TupleView) (places : List ℕ) → All (λ place. place < length tuples) places → length (placed tuples places) ≡ length places
placed_many tuples [] below = refl
placed_many tuples (place ∷ places) below =
    one (slice_get tuples place) (slice_get-get_or tuples place none (All-head (λ p. p < length tuples) place places below)) (placed_many tuples places (All-tail (λ p. p < length tuples) place places below))
  where
    none : TupleView
    none = record { vals = []; from = 0; at = 0 }

    one : {tuple : TupleView} (o : Option TupleView) → o ≡ Some tuple → length (placed tuples places) ≡ length places → length (option_to_list o ++ placed tuples places) ≡ length (place ∷ places)
    one o e many = ap (λ p. length (option_to_list p ++ placed tuples places)) e ∙ ap suc many

-- the tuples of a stream at its places
module _ (tuples : List TupleView) (lists : List (List ℕ)) (stream : ℕ) (places other : List ℕ) (less : stream < length lists) (are : places ≡ get_or lists stream other) where
  pub placed_of : placed tuples places ≡ streams_of (map (placed tuples) lists) stream
  placed_of = ap (placed tuples) (are ∙ get_or_default lists stream other [] less) ∙ sym (get_or-map (placed tuples) lists stream [] [] less)

  -- with places it has tuples
  pub some_placed : ArePlaced tuples lists → 0 < length places → 0 < length (streams_of (map (placed tuples) lists) stream)
  some_placed below some =
      let each = subst (λ ps. All (λ place. place < length tuples) ps) (sym are) (All-get_or (λ ps. All (λ place. place < length tuples) ps) lists stream other less below) in
      subst (λ n. 0 < n) (sym (placed_many tuples places each) ∙ ap length placed_of) some

  -- without places it has none
  pub none_placed : length places ≤ 0 → streams_of (map (placed tuples) lists) stream ≡ []
  none_placed none = sym placed_of ∙ ap (placed tuples) (sym (take_all 0 places none))
