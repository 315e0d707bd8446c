use Rattle.cay_host.specs.TallyHost.{tally_told}
use Rattle.catalogue.specs.Holding.{judged_in}
use Rattle.courses.specs.QuerySet.{set_of}
use Rattle.load_texts.specs.EventText.{event_text}
use Rattle.cayuga_run.specs.Works.{Load}
use Rattle.cayuga_run.proofs.LoadLemmas.{fails_unless_done}
use Rattle.cayuga_run.proofs.SummaryLemmas.{sums}
use Rattle.cayuga_run.proofs.load.hear_and_sum.Goals as goal

-- the numbers of what was heard
pub returns-in-Ok-clause-summed : goal.returns-in-Ok-clause-summed
returns-in-Ok-clause-summed g c =
    let load : Load = record { seed = c.args.seed; events = c.args.events } in
    sums (judged_in c.args.session.now.catalogue) load c.hear_text.new.session (tally_told c.new-tally.result) (tally_told c.hear_text.new.tally) c.lines.result _ c.in-Done.ensures.hears c.new-tally.ensures c.lines.ensures c.in-Ok.ensures

-- the hearing stopped before the end of the events
pub returns-in_default-clause-fails : goal.returns-in_default-clause-fails
returns-in_default-clause-fails g c =
    fails_unless_done (set_of (judged_in c.args.session.now.catalogue)) (event_text c.args.seed c.args.events) c.hear_text.new.session (tally_told c.new-tally.result) (tally_told c.hear_text.new.tally) c.hear_text.result
    c.hear_text.ensures.hears c.in_default.not-Done
