use Rattle.std.proofs.Common.{◌-◌, false}
use Rattle.catalogue.specs.Holding.{judged_in}
use Rattle.courses.specs.QuerySet.{set_of}
use Rattle.cayuga_run.specs.Tests.{RisesWithin}
use Rattle.cayuga_run.proofs.HearingLemmas.{HasHeard}
use Rattle.cayuga_run.proofs.events.read_events.Given as goal

abbrev pub invariant-pieces : goal.invariant-pieces
invariant-pieces g l =
    (heard : HasHeard (set_of (judged_in l.initial.session.catalogue)) l.limit l.taken l.session (g.H.Host.told l.initial.host) (g.H.Host.told l.host))
    × RisesWithin (set_of (judged_in l.initial.session.catalogue)) heard.bytes false l.initial.steps l.steps

abbrev pub decreases-pieces : goal.decreases-pieces
decreases-pieces g l = l.limit - l.taken
