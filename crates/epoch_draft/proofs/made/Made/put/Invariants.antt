use Rattle.std.proofs.Common.{◌≡◌, set}
use Rattle.epoch_draft.proofs.made.Made.put.Given as goal

-- the tuples so far are those of the stream
abbrev pub invariant-loop-tuple : goal.invariant-loop-tuple
invariant-loop-tuple l = record {
  can_next : (goal.iterator-loop-tuple).can_next l.tuple-iterator;
  is_finite : (goal.iterator-loop-tuple).is_finite l.tuple-iterator;
  put : l.self ≡ set l.fn.self l.stream l.yielded;
}
