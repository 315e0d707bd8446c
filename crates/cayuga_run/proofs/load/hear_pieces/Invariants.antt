use Rattle.std.proofs.Common.{false, length}
use Rattle.cay_host.specs.TallyHost.{tally_told}
use Rattle.catalogue.specs.Holding.{judged_in}
use Rattle.courses.specs.QuerySet.{set_of}
use Rattle.cayuga_run.specs.Tests.{RisesWithin}
use Rattle.cayuga_run.proofs.LoadLemmas.{HasHeardText}
use Rattle.cayuga_run.proofs.load.hear_pieces.Given as goal

abbrev pub invariant-pieces : goal.invariant-pieces
invariant-pieces g l =
    (heard : HasHeardText (set_of (judged_in l.initial.session.catalogue)) l.initial.text l.text l.session (tally_told l.initial.tally) (tally_told l.tally))
    × RisesWithin (set_of (judged_in l.initial.session.catalogue)) heard.bytes false l.initial.steps l.steps

abbrev pub decreases-pieces : goal.decreases-pieces
decreases-pieces g l = length l.text
