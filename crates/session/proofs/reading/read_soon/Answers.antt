use Rattle.std.proofs.Common.{ap, refl, ◌∙◌}
use Rattle.courses.specs.ControlLines.{event_entry}
use Rattle.courses.specs.QuerySet.{set_in}
use Rattle.courses.proofs.EventLinesLemmas.{event_line}
use Rattle.courses.proofs.FitsLemmas.{event_fits}
use Rattle.session.proofs.ReadingLemmas.{begins_plain}
use Rattle.session.proofs.reading.read_soon.Goals as goal

-- it is an event line, and says the event that was read
pub returns-in-Some-clause-says : goal.returns-in-Some-clause-says
returns-in-Some-clause-says c =
    let set = set_in c.args.catalogue.now in
    (refl, event_line set c.args.bytes.now (begins_plain c.args.bytes.now c.requires.line c.if-bytes-ne62.true) ∙ ap event_entry (rw c.streams.ensures.value at c.in-Some.ensures))

-- which fits its stream
pub returns-in-Some-clause-fits : goal.returns-in-Some-clause-fits
returns-in-Some-clause-fits c = event_fits c.args.catalogue.now.streams c.args.bytes.now c.in-Some.event (rw c.streams.ensures.value at c.in-Some.ensures)
