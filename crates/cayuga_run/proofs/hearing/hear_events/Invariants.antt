use Rattle.std.proofs.Common.{◌-◌}
use Rattle.cayuga_run.proofs.HereLemmas.{HasHeardHere}
use Rattle.cayuga_run.proofs.hearing.hear_events.Given as goal

-- so many bytes were taken and heard
abbrev pub invariant-pieces : goal.invariant-pieces
invariant-pieces g l = HasHeardHere l.catalogue.streams l.limit l.taken l.hearing (g.H.Host.told l.initial.host) (g.H.Host.told l.host)

abbrev pub decreases-pieces : goal.decreases-pieces
decreases-pieces g l = l.limit - l.taken
