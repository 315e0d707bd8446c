use Rattle.std.proofs.Common.{◌≡◌, take}
use Rattle.derivations.specs.DerivedPrograms.{derived_heard}
use Rattle.derivations.specs.HeardLines.{events_of}
use Rattle.derivations.proofs.reading.heard_on.Given as goal

-- those of the events so far that were heard on the stream
abbrev pub invariant-loop-index : goal.invariant-loop-index
invariant-loop-index l = l.found ≡ derived_heard 1 (events_of (take l.index l.history)) l.stream
