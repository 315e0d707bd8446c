use Rattle.std.proofs.Common.{◌≡◌, map}
use Rattle.std.specs.List.{range_with_len}
use Rattle.derivations.specs.DerivedPrograms.{derived_declared}
use Rattle.derivations.specs.HeardLines.{events_of}
use Rattle.derivations.proofs.publishing.heard_streams.Given as goal

-- the streams so far have their events
abbrev pub invariant-loop-stream : goal.invariant-loop-stream
invariant-loop-stream l = l.streams ≡ map (derived_declared l.declared (events_of l.history)) (range_with_len 0 l.stream)
