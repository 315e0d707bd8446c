use Rattle.std.proofs.Common.{◌+◌, ◌-◌, length}
use Rattle.session.specs.Fronts.{AreFronts}
use Rattle.session.proofs.fronts.make_front.Given as goal

-- the fronts that are made are those of their streams
abbrev pub invariant-places : goal.invariant-places
invariant-places l = AreFronts l.streams l.fronts

-- the streams up to this one that have no place yet
abbrev pub decreases-places : goal.decreases-places
decreases-places l = l.stream + 1 - length l.fronts
