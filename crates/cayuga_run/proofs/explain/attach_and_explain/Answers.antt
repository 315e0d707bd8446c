use Rattle.std.proofs.Common.{◌≡◌, ◌∙◌, ap, refl, subst, sym, false, true, List, Result, Ok, Err}
use Rattle.std.specs.Result.{OnErr, OnOk, is_err}
use Rattle.semantics.specs.Programs.{Program}
use Rattle.semantics.specs.TypedPrograms.{HaveTheirKinds}
use Rattle.cay_host.specs.declared.side.Side.TheVariants.{Events}
use Rattle.catalogue.specs.Holding.{judged_in}
use Rattle.cel_types.specs.SourceLaws.{kinds_in}
use Rattle.courses.specs.QuerySet.{QuerySet}
use Rattle.derivations.specs.HeardLines.{events_of}
use Rattle.derivations.specs.declared.history.Heard.{Heard}
use Rattle.cayuga_run.specs.HearingHere.{WritesExplanation}
use Rattle.cayuga_run.specs.Works.{Explaining, as_run}
use Rattle.cayuga_run.proofs.BlamingLemmas.{blames_after, none_blamed}
use Rattle.cayuga_run.proofs.EndLemmas.{same_told}
use Rattle.cayuga_run.proofs.ExplainLemmas.{explain_ends, explain_stops, explains_before_events, explains_events}
use Rattle.cayuga_run.proofs.HeldLemmas.{set_held}
use Rattle.cayuga_run.proofs.OutcomeLemmas.{not_ready, ready}
use Rattle.cayuga_run.proofs.explain.attach_and_explain.Goals as goal

-- what a call promises of its Ok, where it is no Err
from_ok : {T E P : Type 0} (r : Result T E) → false ≡ is_err r → OnOk r P → P
from_ok (Ok value) none holds = holds
from_ok (Err fault) none holds = absurd cc

-- and of its Err, where it is one
from_err : {T E P : Type 0} (r : Result T E) → true ≡ is_err r → OnErr r P → P
from_err (Ok value) failed holds = absurd cc
from_err (Err fault) failed holds = holds

-- the events couldn't be attached
pub returns-then-is_err-clause-outcome : goal.returns-then-is_err-clause-outcome
returns-then-is_err-clause-outcome g c = λ queries first accepted.
    let told = g.H.Host.told in
    let explaining : Explaining = record { queries = queries; events = c.args.events.now } in
    not_ready (as_run explaining) (judged_in c.args.catalogue.now) first (told c.args.host.now) (told c.attach.new.self) accepted (from_err c.attach.result c.if-is_err.ensures.value c.attach.ensures.failed) c.attach.ensures.same c.requires.free

pub returns-then-is_err-clause-blames : goal.returns-then-is_err-clause-blames
returns-then-is_err-clause-blames g c = record {
  attach = λ other. absurd (other Events refl);
  read = λ other. c.attach.ensures.same.read_faults;
  write = λ other. c.attach.ensures.same.write_faults;
  last = from_err c.attach.result c.if-is_err.ensures.value c.attach.ensures.last_failed;
}

pub returns-then-is_err-clause-reads : goal.returns-then-is_err-clause-reads
returns-then-is_err-clause-reads g c = λ queries first accepted before.
    explains_before_events c.args.events.now c.args.limit accepted before (from_err c.attach.result c.if-is_err.ensures.value c.attach.ensures.failed) c.requires.free

-- all events have the kinds of their streams
pub write_explanation-requires-clause-kinds : goal.write_explanation-requires-clause-kinds
write_explanation-requires-clause-kinds g c =
    subst (λ (history : List Heard). HaveTheirKinds (kinds_in c.args.catalogue.now.streams) (events_of history)) (sym c.history.ensures) (c.in-Done.ensures.kinds refl)

-- they were heard, and then the text was written
pub returns-in-Done-clause-outcome : goal.returns-in-Done-clause-outcome
returns-in-Done-clause-outcome g c = λ queries first accepted.
    let told = g.H.Host.told in
    let explaining : Explaining = record { queries = queries; events = c.args.events.now } in
    let judged = judged_in c.args.catalogue.now in
    let all = c.in-Done.ensures.hears in
    let held = ap (λ (set : QuerySet). set.program) (set_held c.args.catalogue.now c.requires.loaded) in
    let writes = λ (program : Program) (history : List Heard). WritesExplanation program history (told c.hear_events.new.host) (told c.write_explanation.new.host) c.write_explanation.result in
    explain_ends c.args.limit (ready (as_run explaining) judged first (told c.args.host.now) (told c.attach.new.self) accepted (from_ok c.attach.result c.if-is_err.ensures.value c.attach.ensures.ok) c.attach.ensures.same)
    c.hear_events.ensures.same c.hear_events.new.hearing.history all.0 all.1 all.2 c.write_explanation.ensures.same c.write_explanation.result
    (subst (writes _) c.history.ensures (subst (λ (program : Program). writes program c.history.result.now) held c.write_explanation.ensures.writes))

pub returns-in-Done-clause-blames : goal.returns-in-Done-clause-blames
returns-in-Done-clause-blames g c =
    let heard = none_blamed c.in-Done.ensures.blames in
    blames_after c.write_explanation.result (record {
      attach = heard.attach ∙ from_ok c.attach.result c.if-is_err.ensures.value c.attach.ensures.quiet;
      read = heard.read ∙ c.attach.ensures.same.read_faults;
      write = heard.write ∙ c.attach.ensures.same.write_faults;
      last = λ before. heard.last (from_ok c.attach.result c.if-is_err.ensures.value c.attach.ensures.none_failed);
    }) c.write_explanation.ensures.blames

pub returns-in-Done-clause-reads : goal.returns-in-Done-clause-reads
returns-in-Done-clause-reads g c = λ queries first accepted before.
    explains_events c.args.events.now c.args.limit accepted before (from_ok c.attach.result c.if-is_err.ensures.value c.attach.ensures.ok) c.hear_events.ensures.same c.write_explanation.ensures.same c.hear_events.ensures.stops

-- the hearing stopped before the end of the events
pub returns : goal.returns
returns g c = record {
  outcome = λ queries first accepted.
      let told = g.H.Host.told in
      let explaining : Explaining = record { queries = queries; events = c.args.events.now } in
      explain_stops c.args.limit (ready (as_run explaining) (judged_in c.args.catalogue.now) first (told c.args.host.now) (told c.attach.new.self) accepted (from_ok c.attach.result c.if-is_err.ensures.value c.attach.ensures.ok) c.attach.ensures.same)
      c.hear_events.ensures.same c.hear_events.new.hearing.history c.hear_events.result c.hear_events.ensures.hears c.in_default.not-Done;
  blames = blames_after c.hear_events.result (record {
    attach = from_ok c.attach.result c.if-is_err.ensures.value c.attach.ensures.quiet;
    read = c.attach.ensures.same.read_faults;
    write = c.attach.ensures.same.write_faults;
    last = λ before. from_ok c.attach.result c.if-is_err.ensures.value c.attach.ensures.none_failed;
  }) c.hear_events.ensures.blames;
  reads = λ queries first accepted before.
      explains_events c.args.events.now c.args.limit accepted before (from_ok c.attach.result c.if-is_err.ensures.value c.attach.ensures.ok) c.hear_events.ensures.same (same_told _) c.hear_events.ensures.stops;
}
