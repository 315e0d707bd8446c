use Rattle.std.proofs.Common.{◌∙◌, ap, map, refl, Bool}
use Rattle.cay_host.specs.declared.side.Side.{Side}
use Rattle.cay_host.specs.declared.side.Side.TheVariants.{Events}
use Rattle.cel_grammar.specs.Views.{statement_of}
use Rattle.cel_parser.specs.Filed.{Filed}
use Rattle.cel_print.specs.Spelled.{canon}
use Rattle.catalogue.specs.Holding.{judged_in}
use Rattle.cayuga_run.specs.declared.status.Status.TheVariants.{Memory}
use Rattle.cayuga_run.specs.Works.{Writing, canonical_of}
use Rattle.cayuga_run.proofs.BlamingLemmas.{accepted_without_fault, blames_none}
use Rattle.cayuga_run.proofs.ReadingLemmas.{reads_then_writes}
use Rattle.cayuga_run.proofs.WritingLemmas.{accepted_blames, writing_ends, writing_fails}
use Rattle.cayuga_run.proofs.writing.check.Goals as goal

-- the queries weren't accepted
pub returns-in-Err-clause-outcome : goal.returns-in-Err-clause-outcome
returns-in-Err-clause-outcome g c =
    let told = g.H.Host.told in
    let writing : Writing = record { queries = c.args.queries.now; text_of = canonical_of } in
    writing_fails writing (told c.args.host.now) (told c.accept.new.host) c.in-Err.status c.in-Err.ensures.fails

-- the text was written
pub returns-in-Ok-print-clause-outcome : goal.returns-in-Ok-print-clause-outcome
returns-in-Ok-print-clause-outcome g c =
    let told = g.H.Host.told in
    let writing : Writing = record { queries = c.args.queries.now; text_of = canonical_of } in
    writing_ends writing (judged_in c.in-Ok.catalogue) _ (told c.args.host.now) (told c.accept.new.host) (told c.write_text.new.host) c.write_text.result
    c.in-Ok.ensures.accepted (c.as_str.ensures ∙ c.in-Ok-print.ensures.text ∙ ap (λ (file : Filed). canon (map statement_of file.statements)) c.file.ensures.value) c.write_text.ensures.writes c.write_text.ensures.same

pub returns-in-Ok-print-clause-reads : goal.returns-in-Ok-print-clause-reads
returns-in-Ok-print-clause-reads g c = reads_then_writes c.accept.ensures.reads c.write_text.ensures.same

pub returns-in-Ok-print-clause-blames : goal.returns-in-Ok-print-clause-blames
returns-in-Ok-print-clause-blames g c = accepted_blames c.in-Ok.ensures.accepted c.write_text.ensures.blames

pub returns-in-Ok-print-clause-events : goal.returns-in-Ok-print-clause-events
returns-in-Ok-print-clause-events g c = ap (λ (attached : Side → Bool). attached Events) c.write_text.ensures.same.attached ∙ c.accept.ensures.events

-- there was no memory for the text
pub returns-in-Err-print-clause-outcome : goal.returns-in-Err-print-clause-outcome
returns-in-Err-print-clause-outcome g c = c.in-Ok.ensures.accepted.silent

pub returns-in-Err-print-clause-blames : goal.returns-in-Err-print-clause-blames
returns-in-Err-print-clause-blames g c = blames_none Memory refl (accepted_without_fault c.in-Ok.ensures.accepted)

pub returns-in-Err-print-clause-reads : goal.returns-in-Err-print-clause-reads
returns-in-Err-print-clause-reads g c = c.accept.ensures.reads

pub returns-in-Err-print-clause-events : goal.returns-in-Err-print-clause-events
returns-in-Err-print-clause-events g c = c.accept.ensures.events

-- nothing more was done where the queries weren't accepted
pub returns-in-Err-clause-blames : goal.returns-in-Err-clause-blames
returns-in-Err-clause-blames g c = c.in-Err.ensures.blames

pub returns-in-Err-clause-reads : goal.returns-in-Err-clause-reads
returns-in-Err-clause-reads g c = c.accept.ensures.reads

pub returns-in-Err-clause-events : goal.returns-in-Err-clause-events
returns-in-Err-clause-events g c = c.accept.ensures.events
