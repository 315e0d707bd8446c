use Rattle.std.proofs.Common.{◌+◌, ◌-◌, length}
use Rattle.automaton.proofs.network.growing.make_room.Given as goal

abbrev pub decreases-loop-places : goal.decreases-loop-places
decreases-loop-places l = l.number + 1 - length l.places
