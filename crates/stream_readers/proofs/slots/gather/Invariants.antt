use Rattle.std.proofs.Common.{◌≡◌, take}
use Rattle.stream_readers.specs.Filing.{at_places}
use Rattle.stream_readers.proofs.slots.gather.Given as goal

-- the targets so far are found
abbrev pub invariant-loop-place : goal.invariant-loop-place
invariant-loop-place l = l.found ≡ at_places l.slots (take l.place-index l.places)
