use Rattle.std.proofs.Common.{◌∙◌, inr, List, string_bytes, subst, sym, ℕ}
use Rattle.std.proofs.lemmas.Result.{IfOk-weaker, IfErr-weaker}
use Rattle.catalogue.specs.Catalogued.{Catalogued}
use Rattle.catalogue.specs.Holding.{judged_in}
use Rattle.catalogue.specs.Judgement.{Accepts, Judged}
use Rattle.courses.specs.QuerySet.{set_of}
use Rattle.load_texts.specs.EventText.{event_text}
use Rattle.load_texts.specs.QueryText.{query_text}
use Rattle.cayuga_run.specs.Accepting.{IsAcceptedWith}
use Rattle.cayuga_run.specs.LoadHearing.{FailsHearing}
use Rattle.cayuga_run.specs.LoadOutcome.{IsSummary, LoadFails}
use Rattle.cayuga_run.specs.QueryFailing.{TextFails}
use Rattle.cayuga_run.specs.Works.{Load}
use Rattle.cayuga_run.proofs.HeldLemmas.{stands_held}
use Rattle.cayuga_run.proofs.SummaryLemmas.{load_refused, load_unheard}
use Rattle.cayuga_run.proofs.load.summary.Goals as goal

-- the queries weren't accepted
pub returns-in-Err-clause-fails : goal.returns-in-Err-clause-fails
returns-in-Err-clause-fails g c =
    let load : Load = record { seed = c.args.seed; events = c.args.events } in
    load_refused load c.in-Err.status (subst (λ (text : List ℕ). TextFails text c.in-Err.status) (c.as_bytes.ensures.value ∙ c.as_str.ensures ∙ c.in-Ok.ensures) c.in-Err.ensures.fails)

-- the session stands for what the text was judged to be
pub hear_and_sum-requires-clause-stands : goal.hear_and_sum-requires-clause-stands
hear_and_sum-requires-clause-stands g c = stands_held c.in-Ok-judge_text.catalogue c.in-Ok-make.session c.in-Ok-judge_text.ensures.loaded c.in-Ok-make.ensures.queries c.in-Ok-make.ensures.stands

-- a session heard the events
pub returns-clause-summed : goal.returns-clause-summed
returns-clause-summed g c =
    let load : Load = record { seed = c.args.seed; events = c.args.events } in
    let judged = judged_in c.in-Ok-make.session.catalogue in
    let own = subst (λ (k : Catalogued). Accepts c.as_bytes.result.now (judged_in k)) (sym c.in-Ok-make.ensures.queries) c.in-Ok-judge_text.ensures.accepted in
    let accepts = subst (λ (text : List ℕ). Accepts text judged) (c.as_bytes.ensures.value ∙ c.as_str.ensures ∙ c.in-Ok.ensures) own in
    IfOk-weaker c.hear_and_sum.result (λ line. IsSummary judged load (string_bytes line)) (λ line. IsAcceptedWith (query_text c.args.events) (λ (j : Judged). IsSummary j load (string_bytes line)))
    (λ line sums. record { judged = judged; accepts = accepts; holds = sums }) c.hear_and_sum.ensures.summed

pub returns-clause-fails : goal.returns-clause-fails
returns-clause-fails g c =
    let load : Load = record { seed = c.args.seed; events = c.args.events } in
    let judged = judged_in c.in-Ok-make.session.catalogue in
    let own = subst (λ (k : Catalogued). Accepts c.as_bytes.result.now (judged_in k)) (sym c.in-Ok-make.ensures.queries) c.in-Ok-judge_text.ensures.accepted in
    let accepts = subst (λ (text : List ℕ). Accepts text judged) (c.as_bytes.ensures.value ∙ c.as_str.ensures ∙ c.in-Ok.ensures) own in
    IfErr-weaker c.hear_and_sum.result (FailsHearing (set_of judged) (event_text c.args.seed c.args.events)) (LoadFails load) (λ status f. load_unheard load judged accepts status f) c.hear_and_sum.ensures.fails

pub returns-clause-tests : goal.returns-clause-tests
returns-clause-tests g c =
    let judged = judged_in c.in-Ok-make.session.catalogue in
    let own = subst (λ (k : Catalogued). Accepts c.as_bytes.result.now (judged_in k)) (sym c.in-Ok-make.ensures.queries) c.in-Ok-judge_text.ensures.accepted in
    let accepts = subst (λ (text : List ℕ). Accepts text judged) (c.as_bytes.ensures.value ∙ c.as_str.ensures ∙ c.in-Ok.ensures) own in
    inr (record { judged = judged; accepts = accepts; holds = c.hear_and_sum.ensures.tests })
