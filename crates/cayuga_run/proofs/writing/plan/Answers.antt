use Rattle.std.proofs.Common.{◌∙◌, ap, refl, Bool}
use Rattle.cay_host.specs.declared.side.Side.{Side}
use Rattle.cay_host.specs.declared.side.Side.TheVariants.{Events}
use Rattle.catalogue.specs.Holding.{judged_in}
use Rattle.cayuga_run.specs.declared.status.Status.TheVariants.{Memory}
use Rattle.cayuga_run.specs.Works.{Writing}
use Rattle.plan_text.specs.Plan.{plan_of}
use Rattle.cayuga_run.proofs.BlamingLemmas.{accepted_without_fault, blames_none}
use Rattle.cayuga_run.proofs.ReadingLemmas.{reads_then_writes}
use Rattle.cayuga_run.proofs.WritingLemmas.{accepted_blames, writing_ends, writing_fails}
use Rattle.cayuga_run.proofs.writing.plan.Goals as goal

-- the queries weren't accepted
pub returns-in-Err-clause-outcome : goal.returns-in-Err-clause-outcome
returns-in-Err-clause-outcome g c =
    let told = g.H.Host.told in
    let writing : Writing = record { queries = c.args.queries.now; text_of = plan_of } in
    writing_fails writing (told c.args.host.now) (told c.accept.new.host) c.in-Err.status c.in-Err.ensures.fails

-- the text was written
pub returns-in-Ok-plan-clause-outcome : goal.returns-in-Ok-plan-clause-outcome
returns-in-Ok-plan-clause-outcome g c =
    let told = g.H.Host.told in
    let writing : Writing = record { queries = c.args.queries.now; text_of = plan_of } in
    writing_ends writing (judged_in c.in-Ok.catalogue) _ (told c.args.host.now) (told c.accept.new.host) (told c.write_text.new.host) c.write_text.result
    c.in-Ok.ensures.accepted (c.as_str.ensures ∙ c.in-Ok-plan.ensures) c.write_text.ensures.writes c.write_text.ensures.same

pub returns-in-Ok-plan-clause-reads : goal.returns-in-Ok-plan-clause-reads
returns-in-Ok-plan-clause-reads g c = reads_then_writes c.accept.ensures.reads c.write_text.ensures.same

pub returns-in-Ok-plan-clause-blames : goal.returns-in-Ok-plan-clause-blames
returns-in-Ok-plan-clause-blames g c = accepted_blames c.in-Ok.ensures.accepted c.write_text.ensures.blames

pub returns-in-Ok-plan-clause-events : goal.returns-in-Ok-plan-clause-events
returns-in-Ok-plan-clause-events g c = ap (λ (attached : Side → Bool). attached Events) c.write_text.ensures.same.attached ∙ c.accept.ensures.events

-- there was no memory for the text
pub returns-in-Err-plan-clause-outcome : goal.returns-in-Err-plan-clause-outcome
returns-in-Err-plan-clause-outcome g c = c.in-Ok.ensures.accepted.silent

pub returns-in-Err-plan-clause-blames : goal.returns-in-Err-plan-clause-blames
returns-in-Err-plan-clause-blames g c = blames_none Memory refl (accepted_without_fault c.in-Ok.ensures.accepted)

pub returns-in-Err-plan-clause-reads : goal.returns-in-Err-plan-clause-reads
returns-in-Err-plan-clause-reads g c = c.accept.ensures.reads

pub returns-in-Err-plan-clause-events : goal.returns-in-Err-plan-clause-events
returns-in-Err-plan-clause-events g c = c.accept.ensures.events

-- nothing more was done where the queries weren't accepted
pub returns-in-Err-clause-blames : goal.returns-in-Err-clause-blames
returns-in-Err-clause-blames g c = c.in-Err.ensures.blames

pub returns-in-Err-clause-reads : goal.returns-in-Err-clause-reads
returns-in-Err-clause-reads g c = c.accept.ensures.reads

pub returns-in-Err-clause-events : goal.returns-in-Err-clause-events
returns-in-Err-clause-events g c = c.accept.ensures.events
