use Rattle.std.proofs.Common.{◌∙◌, ap, refl, subst}
use Rattle.cay_host.specs.declared.side.Side.TheVariants.{Events}
use Rattle.catalogue.specs.Holding.{judged_in}
use Rattle.courses.specs.QuerySet.{QuerySet, set_of}
use Rattle.cayuga_run.specs.declared.status.Status.TheVariants.{Done}
use Rattle.cayuga_run.specs.Reports.{events_heard}
use Rattle.cayuga_run.specs.StatsOutcome.{StatsOutcome}
use Rattle.cayuga_run.specs.Works.{Run}
use Rattle.cayuga_run.proofs.BlamingLemmas.{blames_after, none_blamed}
use Rattle.cayuga_run.proofs.CallLemmas.{from_err, from_ok}
use Rattle.cayuga_run.proofs.EndLemmas.{run_hears, run_tells}
use Rattle.cayuga_run.proofs.OutcomeLemmas.{ready}
use Rattle.cayuga_run.proofs.ReadingLemmas.{alone_then_writes, reads_before_events, reads_events, stops_then_writes}
use Rattle.cayuga_run.proofs.TestsLemmas.{tests_events, tests_nothing, tests_then_writes}
use Rattle.cayuga_run.proofs.run.attach_and_read.Goals as goal

-- the events couldn't be attached
pub returns-then-is_err-clause-blames : goal.returns-then-is_err-clause-blames
returns-then-is_err-clause-blames g c = record {
  attach = λ other. absurd (other Events refl);
  read = λ other. c.attach.ensures.same.read_faults;
  write = λ other. c.attach.ensures.same.write_faults;
  last = from_err c.attach.result c.if-is_err.ensures.value c.attach.ensures.last_failed;
}

-- the events were heard, and the writing of the stats line is blamed
pub returns-then-hearing-clause-blames : goal.returns-then-hearing-clause-blames
returns-then-hearing-clause-blames g c =
    let heard = none_blamed c.in-Done.ensures.blames in
    blames_after c.write_stats.result (record {
      attach = heard.attach ∙ from_ok c.attach.result c.if-is_err.ensures.value c.attach.ensures.quiet;
      read = heard.read ∙ c.attach.ensures.same.read_faults;
      write = heard.write ∙ c.attach.ensures.same.write_faults;
      last = λ before. heard.last (from_ok c.attach.result c.if-is_err.ensures.value c.attach.ensures.none_failed);
    }) c.write_stats.ensures.blames

-- the events were heard, and then the stats line was written
pub returns-then-hearing-clause-outcome : goal.returns-then-hearing-clause-outcome
returns-then-hearing-clause-outcome g c = λ queries first accepted.
    let told = g.H.Host.told in
    let run : Run = record { queries = queries; events = c.args.hearing.now.events.now; stats = c.args.hearing.now.stats } in
    let judged = judged_in c.args.session.now.catalogue in
    let all = c.in-Done.ensures.hears in
    run_tells run c.args.hearing.now.limit judged first (told c.attach.new.self) (told c.read_events.new.host) (told c.write_stats.new.host) all.bytes c.write_stats.result
    (ready run judged first (told c.args.host.now) (told c.attach.new.self) accepted (from_ok c.attach.result c.if-is_err.ensures.value c.attach.ensures.ok) c.attach.ensures.same)
    all.heard c.read_events.ensures.alone (none_blamed c.in-Done.ensures.blames).write c.if-hearing.true c.write_stats.ensures.same
    (subst (λ (set : QuerySet). StatsOutcome set.program (events_heard (set_of judged) all.bytes) (told c.read_events.new.host) (told c.write_stats.new.host) c.write_stats.result) all.finished.holds (c.write_stats.ensures.writes _ all.finished.works))

-- the events were heard, and no stats are asked for
pub returns-else-hearing-clause-outcome : goal.returns-else-hearing-clause-outcome
returns-else-hearing-clause-outcome g c = λ queries first accepted.
    let told = g.H.Host.told in
    let run : Run = record { queries = queries; events = c.args.hearing.now.events.now; stats = c.args.hearing.now.stats } in
    let judged = judged_in c.args.session.now.catalogue in
    run_hears run c.args.hearing.now.limit judged c.read_events.new.session first (told c.attach.new.self) (told c.read_events.new.host) Done
    (ready run judged first (told c.args.host.now) (told c.attach.new.self) accepted (from_ok c.attach.result c.if-is_err.ensures.value c.attach.ensures.ok) c.attach.ensures.same)
    c.in-Done.ensures.hears c.read_events.ensures.alone (λ e. c.if-hearing.false)

-- the hearing stopped before the end of the events
pub returns-in_default : goal.returns-in_default
returns-in_default g c =
    let told = g.H.Host.told in
    let judged = judged_in c.args.session.now.catalogue in
    record {
      outcome = λ queries first accepted.
          let run : Run = record { queries = queries; events = c.args.hearing.now.events.now; stats = c.args.hearing.now.stats } in
          run_hears run c.args.hearing.now.limit judged c.read_events.new.session first (told c.attach.new.self) (told c.read_events.new.host) c.read_events.result
          (ready run judged first (told c.args.host.now) (told c.attach.new.self) accepted (from_ok c.attach.result c.if-is_err.ensures.value c.attach.ensures.ok) c.attach.ensures.same)
          c.read_events.ensures.hears c.read_events.ensures.alone (λ e. absurd (c.in_default.not-Done e));
      blames = blames_after c.read_events.result (record {
        attach = from_ok c.attach.result c.if-is_err.ensures.value c.attach.ensures.quiet;
        read = c.attach.ensures.same.read_faults;
        write = c.attach.ensures.same.write_faults;
        last = λ before. from_ok c.attach.result c.if-is_err.ensures.value c.attach.ensures.none_failed;
      }) c.read_events.ensures.blames;
      reads = λ queries first accepted before.
          reads_events c.args.hearing.now.events.now c.args.hearing.now.limit accepted before (from_ok c.attach.result c.if-is_err.ensures.value c.attach.ensures.ok) c.read_events.ensures.alone c.read_events.ensures.stops;
      tests = λ queries first accepted.
          tests_events c.args.hearing.now.events.now c.args.hearing.now.limit accepted (from_ok c.attach.result c.if-is_err.ensures.value c.attach.ensures.ok) c.read_events.ensures.alone c.read_events.ensures.tests;
    }

-- what was read of the events, and of the queries before
pub returns-then-is_err-clause-reads : goal.returns-then-is_err-clause-reads
returns-then-is_err-clause-reads g c = λ queries first accepted before. reads_before_events c.args.hearing.now.events.now c.args.hearing.now.limit accepted before (from_err c.attach.result c.if-is_err.ensures.value c.attach.ensures.failed) c.requires.free

pub returns-then-hearing-clause-reads : goal.returns-then-hearing-clause-reads
returns-then-hearing-clause-reads g c = λ queries first accepted before.
    reads_events c.args.hearing.now.events.now c.args.hearing.now.limit accepted before (from_ok c.attach.result c.if-is_err.ensures.value c.attach.ensures.ok)
    (alone_then_writes c.read_events.ensures.alone c.write_stats.ensures.same) (stops_then_writes c.read_events.ensures.stops c.write_stats.ensures.same)

pub returns-else-hearing-clause-reads : goal.returns-else-hearing-clause-reads
returns-else-hearing-clause-reads g c = λ queries first accepted before.
    reads_events c.args.hearing.now.events.now c.args.hearing.now.limit accepted before (from_ok c.attach.result c.if-is_err.ensures.value c.attach.ensures.ok) c.read_events.ensures.alone c.read_events.ensures.stops

-- what was tested
pub returns-then-is_err-clause-tests : goal.returns-then-is_err-clause-tests
returns-then-is_err-clause-tests g c = λ queries first accepted.
    let fails = from_err c.attach.result c.if-is_err.ensures.value c.attach.ensures.failed in
    tests_nothing queries c.args.hearing.now.events.now c.args.hearing.now.limit c.args.steps.now (ap (λ f. f Events) fails.attached ∙ c.requires.free)

pub returns-then-hearing-clause-tests : goal.returns-then-hearing-clause-tests
returns-then-hearing-clause-tests g c = λ queries first accepted.
    tests_events c.args.hearing.now.events.now c.args.hearing.now.limit accepted (from_ok c.attach.result c.if-is_err.ensures.value c.attach.ensures.ok)
    (alone_then_writes c.read_events.ensures.alone c.write_stats.ensures.same) (tests_then_writes c.read_events.ensures.tests c.write_stats.ensures.same)

pub returns-else-hearing-clause-tests : goal.returns-else-hearing-clause-tests
returns-else-hearing-clause-tests g c = λ queries first accepted.
    tests_events c.args.hearing.now.events.now c.args.hearing.now.limit accepted (from_ok c.attach.result c.if-is_err.ensures.value c.attach.ensures.ok) c.read_events.ensures.alone c.read_events.ensures.tests
