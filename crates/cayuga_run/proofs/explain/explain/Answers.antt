use Rattle.cayuga_run.specs.Works.{Explaining}
use Rattle.cayuga_run.proofs.ExplainLemmas.{explain_fails, explains_no_events}
use Rattle.cayuga_run.proofs.WritingLemmas.{accepted_blames}
use Rattle.cayuga_run.proofs.explain.explain.Goals as goal

-- the queries weren't accepted
pub returns-in-Err-clause-outcome : goal.returns-in-Err-clause-outcome
returns-in-Err-clause-outcome g c =
    let told = g.H.Host.told in
    let explaining : Explaining = record { queries = c.args.queries.now; events = c.args.events.now } in
    explain_fails explaining c.args.limit (told c.args.host.now) (told c.accept.new.host) c.in-Err.status c.in-Err.ensures.fails

pub returns-in-Err-clause-reads : goal.returns-in-Err-clause-reads
returns-in-Err-clause-reads g c = explains_no_events c.args.events.now c.args.limit c.accept.ensures.reads c.accept.ensures.events

-- they were
pub returns-in-Ok-clause-outcome : goal.returns-in-Ok-clause-outcome
returns-in-Ok-clause-outcome g c = c.attach_and_explain.ensures.outcome c.args.queries.now (g.H.Host.told c.args.host.now) c.in-Ok.ensures.accepted

pub returns-in-Ok-clause-reads : goal.returns-in-Ok-clause-reads
returns-in-Ok-clause-reads g c = c.attach_and_explain.ensures.reads c.args.queries.now (g.H.Host.told c.args.host.now) c.in-Ok.ensures.accepted c.accept.ensures.reads.of_queries

pub returns-in-Ok-clause-blames : goal.returns-in-Ok-clause-blames
returns-in-Ok-clause-blames g c = accepted_blames c.in-Ok.ensures.accepted c.attach_and_explain.ensures.blames
