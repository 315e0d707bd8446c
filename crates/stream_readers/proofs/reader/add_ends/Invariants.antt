use Rattle.std.proofs.Common.{◌++◌, map}
use Rattle.std.specs.List.Sorted.{IsPermutation}
use Rattle.std.specs.List.{range_with_len}
use Rattle.stream_readers.specs.Filing.{filed_to}
use Rattle.stream_readers.specs.Targets.{end_at}
use Rattle.stream_readers.proofs.reader.add_ends.Given as goal

-- the ends so far are added
abbrev pub invariant-loop-place : goal.invariant-loop-place
invariant-loop-place l = IsPermutation l.index (l.initial.index ++ map (λ place. filed_to l.network (end_at l.network l.number place)) (range_with_len 0 l.place))
