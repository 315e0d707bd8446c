use Rattle.std.proofs.Common.{ap}
use Rattle.std.proofs.lemmas.Result.{IfOk-weaker}
use Rattle.catalogue.specs.Adding.{NotTaken, Taken}
use Rattle.catalogue.specs.Taking.{added_of}
use Rattle.courses.specs.declared.fault.ControlFault.TheVariants as fault
use Rattle.courses.specs.ControlLines.{OfControl, added_entry, verdict_of}
use Rattle.courses.proofs.VerdictLemmas.{verdict_is}
use Rattle.session.specs.declared.control.Change.TheVariants as change
use Rattle.session.specs.Says.{Asks, Finds, FitsNext}
use Rattle.session.proofs.ReadingLemmas.{asked_finds, asked_fits, refused_finds}
use Rattle.session.proofs.control.read_query.Goals as goal

-- the text is taken
pub returns-in-Ok-clause-says : goal.returns-in-Ok-clause-says
returns-in-Ok-clause-says c =
    let catalogue = c.args.catalogue.now in
    let made = change.Comes c.in-Ok.query in
    let found = added_entry (verdict_of catalogue.streams c.args.text.now) in
    IfOk-weaker c.asked.result (Asks made) (Finds catalogue c.args.number found)
    (λ n. asked_finds catalogue c.args.number made found n (ap added_entry (verdict_is catalogue.streams c.args.text.now (Taken (added_of c.in-Ok.query)) c.in-Ok.ensures.taken)) c.in-Ok.ensures.fit) c.asked.ensures

pub returns-in-Ok-clause-fits : goal.returns-in-Ok-clause-fits
returns-in-Ok-clause-fits c =
    let made = change.Comes c.in-Ok.query in IfOk-weaker c.asked.result (Asks made) (FitsNext c.args.catalogue.now.streams) (asked_fits c.args.catalogue.now.streams made) c.asked.ensures

-- or it isn't
pub returns-in-Err-Bad-clause-says : goal.returns-in-Err-Bad-clause-says
returns-in-Err-Bad-clause-says c =
    let streams = c.args.catalogue.now.streams in
    refused_finds c.args.catalogue.now c.args.number (OfControl (fault.Query c.in-Err-Bad.why)) _ c.refused.result (ap added_entry (verdict_is streams c.args.text.now (NotTaken _ c.in-Err-Bad.why) (rw c.in-Err-Bad.field-0-is at c.in-Err-Bad.ensures.bad))) (rw c.in-Err-Bad.field-0-is at c.refused.ensures)
