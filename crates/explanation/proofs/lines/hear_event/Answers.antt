use Rattle.std.proofs.Common.{◌≡◌, ◌∙◌, ℕ, ◌≤◌, ap, is_some, subst, sym}
use Rattle.std.proofs.lemmas.Result.{IfErr-weaker, on_ok_weaker}
use Rattle.courses.specs.Heard.{disorder}
use Rattle.explanation.specs.declared.fault.HearFault.{HearFault}
use Rattle.explanation.specs.declared.fault.HearFault.TheVariants as fault
use Rattle.explanation.specs.Hearing.{FailsBy, last_at}
use Rattle.explanation.proofs.HeardLemmas.{no_disorder, not_before}
use Rattle.explanation.proofs.LinesLemmas.{fails_memory}
use Rattle.explanation.proofs.lines.hear_event.Goals as goal

-- the event comes too late
pub returns-in-Some-clause-stops : goal.returns-in-Some-clause-stops
returns-in-Some-clause-stops c =
    ap (λ (at : ℕ). disorder c.args.number (is_some (last_at c.args.history.now)) (last_at c.args.history.now) at) (sym c.at-at.ensures.value) ∙ c.in-Some.ensures.late c.args.number

-- it is put behind the history
pub put_event-requires : goal.put_event-requires
put_event-requires c = not_before c.args.history.now c.args.seen.tuple.at c.late.ensures.in_order (λ last e. subst (λ (at : ℕ). last ≤ at) c.at-at.ensures.value (c.in-None.ensures.timely last e))

pub returns-in-None-clause-heard : goal.returns-in-None-clause-heard
returns-in-None-clause-heard c =
    on_ok_weaker c.put_event.result (λ adds. record { none_refused = no_disorder c.args.number (last_at c.args.history.now) c.args.seen.tuple.at (λ last e. subst (λ (at : ℕ). last ≤ at) c.at-at.ensures.value (c.in-None.ensures.timely last e)); adds = adds }) c.put_event.ensures.heard

pub returns-in-None-clause-stops : goal.returns-in-None-clause-stops
returns-in-None-clause-stops c = IfErr-weaker c.put_event.result (λ (why : HearFault). why ≡ fault.Memory) (FailsBy _) (λ why is. fails_memory _ why is) c.put_event.ensures.memory
