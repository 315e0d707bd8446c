use Rattle.std.proofs.Common.{ap, refl, ◌∙◌}
use Rattle.courses.specs.ControlLines.{OfLine, event_entry}
use Rattle.courses.specs.QuerySet.{set_in}
use Rattle.courses.proofs.EventLinesLemmas.{event_line}
use Rattle.courses.proofs.FitsLemmas.{event_fits}
use Rattle.session.proofs.ReadingLemmas.{begins_control, begins_plain}
use Rattle.session.proofs.reading.read_line.Goals as goal

-- the line begins with >
pub read_change-requires-clause-control : goal.read_change-requires-clause-control
read_change-requires-clause-control c = begins_control c.args.bytes.now c.requires c.if-bytes-eq62.true

-- it is an event line, and says an event
pub returns-in-Ok-clause-says : goal.returns-in-Ok-clause-says
returns-in-Ok-clause-says c =
    let set = set_in c.args.catalogue.now in
    (refl, event_line set c.args.bytes.now (begins_plain c.args.bytes.now c.requires c.if-bytes-eq62.false) ∙ ap event_entry (rw c.streams.ensures.value at c.in-Ok.ensures.ok))

-- or it has a fault
pub returns-in-Err-Bad-clause-says : goal.returns-in-Err-Bad-clause-says
returns-in-Err-Bad-clause-says c =
    let set = set_in c.args.catalogue.now in
    (OfLine c.in-Err-Bad.why, event_line set c.args.bytes.now (begins_plain c.args.bytes.now c.requires c.if-bytes-eq62.false) ∙ ap event_entry (rw (c.in-Err-Bad.field-0-is, c.streams.ensures.value) at c.in-Err-Bad.ensures.bad), refl)

-- the event that was read fits its stream
pub returns-in-Ok-clause-fits : goal.returns-in-Ok-clause-fits
returns-in-Ok-clause-fits c = event_fits c.args.catalogue.now.streams c.args.bytes.now c.in-Ok.event (rw c.streams.ensures.value at c.in-Ok.ensures.ok)
