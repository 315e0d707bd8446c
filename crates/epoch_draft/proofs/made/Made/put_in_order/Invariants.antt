use Rattle.std.proofs.Common.{take}
use Rattle.epoch_draft.proofs.OrderLemmas.{OrderedSoFar}
use Rattle.epoch_draft.proofs.made.Made.put_in_order.Given as goal

-- the tuples of the streams so far are in order
abbrev pub invariant-loop-stream : goal.invariant-loop-stream
invariant-loop-stream l = OrderedSoFar (take l.stream-index l.streams) l.initial.self l.self
