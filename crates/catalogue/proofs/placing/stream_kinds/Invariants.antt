use Rattle.std.proofs.Common.{◌≡◌, take}
use Rattle.catalogue.specs.Chained.{kinds_of_each}
use Rattle.catalogue.proofs.placing.stream_kinds.Given as goal

-- the kinds of the streams so far
abbrev pub invariant-loop-stream : goal.invariant-loop-stream
invariant-loop-stream l = l.lists ≡ take l.stream (kinds_of_each l.streams)
