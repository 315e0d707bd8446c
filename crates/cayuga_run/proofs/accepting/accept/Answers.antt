use Rattle.std.proofs.Common.{◌∙◌, ap, refl, Bool}
use Rattle.std.proofs.lemmas.Result.{IfOk-weaker, IfErr-weaker}
use Rattle.cay_host.specs.declared.side.Side.{Side}
use Rattle.cay_host.specs.declared.side.Side.TheVariants.{Queries, Events}
use Rattle.catalogue.specs.Holding.{judged_in}
use Rattle.cayuga_run.specs.Begun.{HasAccepted, HasRead}
use Rattle.cayuga_run.specs.Blaming.{BlamesHost}
use Rattle.cayuga_run.specs.QueryFailing.{QueriesFail}
use Rattle.cayuga_run.specs.Refusing.{AreNotAccepted}
use Rattle.cayuga_run.proofs.BlamingLemmas.{blames_after}
use Rattle.cayuga_run.proofs.CallLemmas.{from_err, from_ok}
use Rattle.cayuga_run.proofs.ReadingLemmas.{reads_nothing, reads_queries}
use Rattle.cayuga_run.proofs.RunLemmas.{HasQueries, are_attached, not_attached, queries_accepted, queries_fail}
use Rattle.cayuga_run.proofs.accepting.accept.Goals as goal

-- the queries are attached, and their text is accepted
pub returns-clause-accepted : goal.returns-clause-accepted
returns-clause-accepted g c =
    let told = g.H.Host.told in
    let queries = c.args.queries.now in
    let old = told c.args.host.now in
    let mid = told c.attach.new.self in
    let new = told c.read_queries.new.host in
    let is = c.if-is_err.ensures.value in
    let has : HasQueries queries old mid = are_attached queries old mid (from_ok c.attach.result is c.attach.ensures.ok) c.attach.ensures.same (from_ok c.attach.result is c.attach.ensures.quiet) (from_ok c.attach.result is c.attach.ensures.none_failed) c.requires.events in
    IfOk-weaker c.read_queries.result (λ catalogue. HasRead (judged_in catalogue) mid new) (λ catalogue. HasAccepted queries (judged_in catalogue) old new)
    (λ catalogue accepts. queries_accepted queries (judged_in catalogue) old mid new has c.read_queries.ensures.same accepts) c.read_queries.ensures.accepted

-- the queries are attached, and weren't accepted
pub returns-clause-fails : goal.returns-clause-fails
returns-clause-fails g c =
    let told = g.H.Host.told in
    let queries = c.args.queries.now in
    let old = told c.args.host.now in
    let mid = told c.attach.new.self in
    let new = told c.read_queries.new.host in
    let is = c.if-is_err.ensures.value in
    let has : HasQueries queries old mid = are_attached queries old mid (from_ok c.attach.result is c.attach.ensures.ok) c.attach.ensures.same (from_ok c.attach.result is c.attach.ensures.quiet) (from_ok c.attach.result is c.attach.ensures.none_failed) c.requires.events in
    IfErr-weaker c.read_queries.result (QueriesFail mid new) (AreNotAccepted queries old new) (λ status fails. queries_fail queries old mid new status has c.read_queries.ensures.same fails) c.read_queries.ensures.fails

pub returns-clause-blames : goal.returns-clause-blames
returns-clause-blames g c =
    let told = g.H.Host.told in
    let old = told c.args.host.now in
    let mid = told c.attach.new.self in
    let new = told c.read_queries.new.host in
    let is = c.if-is_err.ensures.value in
    let same = c.attach.ensures.same in
    IfErr-weaker c.read_queries.result (BlamesHost mid new) (BlamesHost old new)
    (λ status blames.
    blames_after status
    (record { attach = from_ok c.attach.result is c.attach.ensures.quiet; read = same.read_faults; write = same.write_faults; last = λ before. from_ok c.attach.result is c.attach.ensures.none_failed }) blames) c.read_queries.ensures.blames

-- the queries couldn't be attached
pub returns-then-is_err-clause-fails : goal.returns-then-is_err-clause-fails
returns-then-is_err-clause-fails g c =
    (refl, not_attached _ _ _ (from_err c.attach.result c.if-is_err.ensures.value c.attach.ensures.failed) c.attach.ensures.same c.requires.queries c.requires.events)

pub returns-then-is_err-clause-blames : goal.returns-then-is_err-clause-blames
returns-then-is_err-clause-blames g c = record {
  attach = λ other. absurd (other Queries refl);
  read = λ other. c.attach.ensures.same.read_faults;
  write = λ other. c.attach.ensures.same.write_faults;
  last = from_err c.attach.result c.if-is_err.ensures.value c.attach.ensures.last_failed;
}

pub returns-then-is_err-clause-reads : goal.returns-then-is_err-clause-reads
returns-then-is_err-clause-reads g c = reads_nothing _ _ _ (from_err c.attach.result c.if-is_err.ensures.value c.attach.ensures.failed) c.requires.queries

-- the queries are attached, and were read
pub returns-clause-reads : goal.returns-clause-reads
returns-clause-reads g c =
    let told = g.H.Host.told in
    let queries = c.args.queries.now in
    let old = told c.args.host.now in
    let mid = told c.attach.new.self in
    let is = c.if-is_err.ensures.value in
    let has : HasQueries queries old mid = are_attached queries old mid (from_ok c.attach.result is c.attach.ensures.ok) c.attach.ensures.same (from_ok c.attach.result is c.attach.ensures.quiet) (from_ok c.attach.result is c.attach.ensures.none_failed) c.requires.events in
    reads_queries queries old mid (told c.read_queries.new.host) has c.read_queries.ensures.same c.read_queries.ensures.taken

-- the events are still unattached
pub returns-then-is_err-clause-events : goal.returns-then-is_err-clause-events
returns-then-is_err-clause-events g c =
    let fails = from_err c.attach.result c.if-is_err.ensures.value c.attach.ensures.failed in
    ap (λ (attached : Side → Bool). attached Events) fails.attached ∙ c.requires.events

pub returns-clause-events : goal.returns-clause-events
returns-clause-events g c =
    let attaches = from_ok c.attach.result c.if-is_err.ensures.value c.attach.ensures.ok in
    let attached = λ (attached : Side → Bool). attached Events in
    ap attached c.read_queries.ensures.same.attached ∙ ap attached attaches.attached ∙ c.requires.events
