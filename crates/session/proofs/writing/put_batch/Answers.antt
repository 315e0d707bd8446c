use Rattle.std.proofs.Common.{rules, ◌≡◌, ◌∙◌, ◌++◌, ◌<◌, ◌≤◌, ℕ, List, [], ap, append-nil, arith, length, map, slice_index_or, subst, sym, take, ◌+◌}
use Rattle.std.specs.List.{All, flat_map}
use Rattle.std.proofs.lemmas.Bool.Decides.{nat_tests}
use Rattle.std.proofs.lemmas.List.{take_all}
use Rattle.std.proofs.lemmas.Option.{slice_get_within}
use Rattle.std.proofs.lemmas.List.Elements.{All-get_or}
use Rattle.semantics.specs.Denotation.{streams_of}
use Rattle.semantics.specs.Report.{line}
use Rattle.result_text.specs.Front.{front_of}
use Rattle.epoch_draft.specs.Made.{placed}
use Rattle.catalogue.specs.Standing.{IsKnown}
use Rattle.session.specs.BatchLines.{AreOfKnown, batch_lines}
use Rattle.session.specs.Fronts.{AreFronts, name_in}
use Rattle.session.proofs.BatchLinesLemmas.{given_at, lines_by_streams, none_placed, placed_of, some_placed, stream_lines, stream_more}
use Rattle.session.proofs.writing.put_batch.Goals as goal
use Rattle.session.proofs.writing.put_batch.Goals.{then-not-is_empty+in_ok-keep_front+in_ok-put_places, else-not-is_empty}

-- a stream that has tuples is known
pub keep_front-requires-clause-known : goal.keep_front-requires-clause-known
keep_front-requires-clause-known c =
    let printed = c.printed-printed.result in
    let tuples = printed.tuples.now in
    let lists = printed.places.now in
    let i = c.loop-stream.stream-index in
    let stream = slice_index_or printed.streams.now i 0 in
    let less = All-get_or (λ s. s < length lists) printed.streams.now i 0 c.loop-stream-test.true c.printed-printed.ensures.within in
    let some : 0 < length c.as_slice-places.result.now = grind (arith, nat_tests, c.if-not-is_empty.ensures) in
    given_at (IsKnown c.args.streams.now) (streams_of (map (placed tuples) lists)) printed.streams.now i c.loop-stream-test.true
    (some_placed tuples lists stream c.as_slice-places.result.now c.index-printed-stream.result less c.as_slice-places.ensures c.printed-printed.ensures.below some)
    (subst (AreOfKnown c.args.streams.now) c.printed-printed.ensures.results c.requires.known)

-- its front was made
pub get-requires : goal.get-requires
get-requires c = slice_get_within c.keep_front.new.fronts (slice_index_or c.printed-printed.result.streams.now c.loop-stream.stream-index 0) _ c.in_ok-keep_front.ensures.there

-- the lines of one stream more were put, and its last tuples may be shown again
pub loop-stream-preserved : goal.loop-stream-preserved
loop-stream-preserved c =
    let printed = c.printed-printed.result in
    let tuples = printed.tuples.now in
    let lists = printed.places.now in
    let names = c.args.streams.now in
    let i = c.loop-stream.stream-index in
    let stream = slice_index_or printed.streams.now i 0 in
    let places = c.as_slice-places.result.now in
    let lines = stream_lines names (streams_of (map (placed tuples) lists)) stream in
    let less = All-get_or (λ s. s < length lists) printed.streams.now i 0 c.loop-stream-test.true c.printed-printed.ensures.within in
    let more : (new : List ℕ) → new ≡ c.loop-stream.rows ++ lines → new ≡ c.args.rows.now ++ flat_map (stream_lines names (streams_of (map (placed tuples) lists))) (take (i + 1) printed.streams.now) =
    λ new e. stream_more names (streams_of (map (placed tuples) lists)) printed.streams.now i c.args.rows.now c.loop-stream.rows new c.loop-stream-test.true e c.loop-stream.invariant.put in
    elim c.if-not-is_empty.branch [
      | then-not-is_empty+in_ok-keep_front+in_ok-put_places w ↦
          let front : w.unwrap-front.result.now ≡ front_of (name_in names stream) = search rules in
          record {
            put = more c.if-not-is_empty.rows
                (w.rows-is ∙ w.in_ok-put_places.ensures.put (name_in names stream) front
                ∙ ap (λ ts. c.loop-stream.rows ++ flat_map (line (name_in names stream)) ts) (placed_of tuples lists stream places c.index-printed-stream.result less c.as_slice-places.ensures));
            fronts = subst (AreFronts names) (sym w.fronts-is) w.in_ok-keep_front.ensures.fronts;
            lately = rw (w.tails-is, w.lately-is) w.in_ok-put_places.ensures.lately;
          }
      | else-not-is_empty w ↦
          let none : length places ≤ 0 = grind (arith, nat_tests, w.if-not-is_empty.ensures) in
          record {
            put = more c.if-not-is_empty.rows (w.rows-is ∙ sym (append-nil c.loop-stream.rows)
                ∙ ap (λ ts. c.loop-stream.rows ++ flat_map (line (name_in names stream)) ts) (sym (none_placed tuples lists stream places c.index-printed-stream.result less c.as_slice-places.ensures none)));
            fronts = subst (AreFronts names) (sym w.fronts-is) c.loop-stream.invariant.fronts;
            lately = rw (w.tails-is, w.lately-is) c.loop-stream.invariant.lately;
          }
    ]

-- the lines of all streams were put
pub returns-clause-put : goal.returns-clause-put
returns-clause-put c =
    let printed = c.printed-printed.result in
    let tuples_of = streams_of (map (placed printed.tuples.now) printed.places.now) in
    let past : length printed.streams.now ≤ c.loop-stream.stream-index = omega arith in
    c.loop-stream.invariant.put ∙ ap (λ (ss : List ℕ). c.args.rows.now ++ flat_map (stream_lines c.args.streams.now tuples_of) ss) (take_all c.loop-stream.stream-index printed.streams.now past)
    ∙ ap (λ rows. c.args.rows.now ++ rows) (sym (lines_by_streams c.args.streams.now printed.streams.now tuples_of) ∙ ap (batch_lines c.args.streams.now) (sym c.printed-printed.ensures.results))
