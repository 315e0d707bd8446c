use Rattle.std.proofs.Common.{refl, sym, subst}
use Rattle.catalogue.specs.Catalogued.{Catalogued}
use Rattle.catalogue.specs.Holding.{judged_in}
use Rattle.cayuga_run.specs.declared.status.Status.TheVariants.{Memory}
use Rattle.cayuga_run.specs.Begun.{HasAccepted}
use Rattle.cayuga_run.specs.Works.{Run}
use Rattle.cayuga_run.proofs.BlamingLemmas.{accepted_without_fault, blames_after, blames_none}
use Rattle.cayuga_run.proofs.HeldLemmas.{stands_held}
use Rattle.cayuga_run.proofs.ReadingLemmas.{reads_no_events}
use Rattle.cayuga_run.proofs.RunLemmas.{memory_silent, run_fails}
use Rattle.cayuga_run.proofs.TestsLemmas.{tests_nothing}
use Rattle.cayuga_run.proofs.run.run.Goals as goal

-- the queries weren't accepted
pub returns-in-Err-clause-outcome : goal.returns-in-Err-clause-outcome
returns-in-Err-clause-outcome g c =
    let told = g.H.Host.told in
    let run : Run = record { queries = c.args.queries.now; events = c.args.hearing.now.events.now; stats = c.args.hearing.now.stats } in
    run_fails run c.args.hearing.now.limit (told c.args.host.now) (told c.accept.new.host) c.in-Err.status c.in-Err.ensures.fails

-- there was no memory for a session
pub returns-in_default-clause-outcome : goal.returns-in_default-clause-outcome
returns-in_default-clause-outcome g c = memory_silent _ _ _ _ c.in-Ok.ensures.accepted.silent

pub returns-in_default-clause-blames : goal.returns-in_default-clause-blames
returns-in_default-clause-blames g c = blames_none Memory refl (accepted_without_fault c.in-Ok.ensures.accepted)

-- the session stands for what the text was judged to be
pub attach_and_read-requires-clause-stands : goal.attach_and_read-requires-clause-stands
attach_and_read-requires-clause-stands g c = stands_held c.in-Ok.catalogue c.in-Ok-make.session c.in-Ok.ensures.loaded c.in-Ok-make.ensures.queries c.in-Ok-make.ensures.stands

-- a session heard the events
pub returns-clause-outcome : goal.returns-clause-outcome
returns-clause-outcome g c =
    let told = g.H.Host.told in
    c.attach_and_read.ensures.outcome c.args.queries.now (told c.args.host.now)
    (subst (λ (k : Catalogued). HasAccepted c.args.queries.now (judged_in k) (told c.args.host.now) (told c.accept.new.host)) (sym c.in-Ok-make.ensures.queries) c.in-Ok.ensures.accepted)

pub returns-clause-blames : goal.returns-clause-blames
returns-clause-blames g c = blames_after c.attach_and_read.result (accepted_without_fault c.in-Ok.ensures.accepted) c.attach_and_read.ensures.blames

-- what was read of the queries before
pub returns-in-Err-clause-reads : goal.returns-in-Err-clause-reads
returns-in-Err-clause-reads g c = reads_no_events c.args.hearing.now.events.now c.args.hearing.now.limit c.accept.ensures.reads c.accept.ensures.events

pub returns-in_default-clause-reads : goal.returns-in_default-clause-reads
returns-in_default-clause-reads g c = reads_no_events c.args.hearing.now.events.now c.args.hearing.now.limit c.accept.ensures.reads c.accept.ensures.events

-- and of both
pub returns-clause-reads : goal.returns-clause-reads
returns-clause-reads g c =
    let told = g.H.Host.told in
    c.attach_and_read.ensures.reads c.args.queries.now (told c.args.host.now)
    (subst (λ (k : Catalogued). HasAccepted c.args.queries.now (judged_in k) (told c.args.host.now) (told c.accept.new.host)) (sym c.in-Ok-make.ensures.queries) c.in-Ok.ensures.accepted)
    c.accept.ensures.reads.of_queries

-- what was tested, where the events weren't attached
pub returns-in-Err-clause-tests : goal.returns-in-Err-clause-tests
returns-in-Err-clause-tests g c = tests_nothing c.args.queries.now c.args.hearing.now.events.now c.args.hearing.now.limit c.args.steps.now c.accept.ensures.events

pub returns-in_default-clause-tests : goal.returns-in_default-clause-tests
returns-in_default-clause-tests g c = tests_nothing c.args.queries.now c.args.hearing.now.events.now c.args.hearing.now.limit c.args.steps.now c.accept.ensures.events

-- and where they were
pub returns-clause-tests : goal.returns-clause-tests
returns-clause-tests g c =
    let told = g.H.Host.told in
    c.attach_and_read.ensures.tests c.args.queries.now (told c.args.host.now)
    (subst (λ (k : Catalogued). HasAccepted c.args.queries.now (judged_in k) (told c.args.host.now) (told c.accept.new.host)) (sym c.in-Ok-make.ensures.queries) c.in-Ok.ensures.accepted)
