use Rattle.std.proofs.Common.{◌≡◌, ◌++◌, map, take}
use Rattle.std.specs.List.{flat_map}
use Rattle.semantics.specs.Denotation.{streams_of}
use Rattle.epoch_draft.specs.Made.{placed}
use Rattle.session.specs.Fronts.{AreFronts}
use Rattle.result_text.specs.Tails.{AreIn}
use Rattle.session.proofs.BatchLinesLemmas.{stream_lines}
use Rattle.session.proofs.writing.put_batch.Given as goal

-- the lines of the streams so far were put, the fronts are those of their streams, and the tails of the last tuples stand among the tails
abbrev pub invariant-loop-stream : goal.invariant-loop-stream
invariant-loop-stream l = record {
  put : l.rows ≡ l.initial.rows ++ flat_map (stream_lines l.streams (streams_of (map (placed l.printed.tuples.now) l.printed.places.now))) (take l.stream-index l.stream-items);
  fronts : AreFronts l.streams l.fronts;
  lately : AreIn l.tails l.printed.tuples.now l.lately;
}
