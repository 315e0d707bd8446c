use Rattle.std.proofs.Common.{◌≡◌, ◌+◌, ◌<◌, length, IfSome, arith, refl}
use Rattle.std.proofs.lemmas.Result.{IfOk-weaker, IfErr-weaker}
use Rattle.cay_host.specs.declared.side.Side.TheVariants.{Queries}
use Rattle.catalogue.specs.Holding.{judged_in}
use Rattle.catalogue.specs.Judgement.{Accepted, Accepts, Judges, Verdict}
use Rattle.catalogue.specs.Filing.{most_bytes}
use Rattle.cayuga_run.specs.Begun.{HasRead}
use Rattle.cayuga_run.specs.Blaming.{BlamesHost}
use Rattle.cayuga_run.specs.QueryFailing.{QueriesFail, TextFails}
use Rattle.cayuga_run.proofs.BlamingLemmas.{blames_none, text_tells_none}
use Rattle.cayuga_run.proofs.JudgementLemmas.{not_past}
use Rattle.cayuga_run.proofs.RunLemmas.{judged_whole, judged_past, text_fails}
use Rattle.cayuga_run.proofs.accepting.read_queries.Goals as goal

-- all of the queries was read and accepted
pub returns-in-Whole-clause-accepted : goal.returns-in-Whole-clause-accepted
returns-in-Whole-clause-accepted g c =
    let before = g.H.Host.told c.args.host.now in
    let after = g.H.Host.told c.read_side.new.host in
    let bytes = c.deref.result.now in
    let ends = rw c.in-Whole.is at c.in-Ok.ensures.end in
    let same : (v : Verdict) → Judges bytes v → IfSome (before.left Queries) (λ t. Judges t v) =
    λ v judged. judged_whole (before.left Queries) (after.left Queries) bytes v (rw c.deref.ensures.value c.in-Ok.ensures.front) ends.1 judged in
    IfOk-weaker c.judge_text.result (λ catalogue. Accepts bytes (judged_in catalogue)) (λ catalogue. HasRead (judged_in catalogue) before after)
    (λ catalogue accepts. record { accepts = same (Accepted (judged_in catalogue)) accepts; read_faults = rw c.in-Whole.is at c.in-Ok.ensures.quiet; none_failed = rw c.in-Whole.is at c.in-Ok.ensures.last; read = ends.1 }) c.judge_text.ensures.accepted

-- all of the queries was read, and not accepted
pub returns-in-Whole-clause-fails : goal.returns-in-Whole-clause-fails
returns-in-Whole-clause-fails g c =
    let before = g.H.Host.told c.args.host.now in
    let after = g.H.Host.told c.read_side.new.host in
    let bytes = c.deref.result.now in
    let ends = rw c.in-Whole.is at c.in-Ok.ensures.end in
    let same : (v : Verdict) → Judges bytes v → IfSome (before.left Queries) (λ t. Judges t v) =
    λ v judged. judged_whole (before.left Queries) (after.left Queries) bytes v (rw c.deref.ensures.value c.in-Ok.ensures.front) ends.1 judged in
    IfErr-weaker c.judge_text.result (TextFails bytes) (QueriesFail before after) (λ status f. text_fails before after bytes status same f) c.judge_text.ensures.fails

-- the first bytes of queries past the limit were accepted
pub returns-clause-accepted : goal.returns-clause-accepted
returns-clause-accepted g c =
    let before = g.H.Host.told c.args.host.now in
    let after = g.H.Host.told c.read_side.new.host in
    let bytes = c.deref-in-More.result.now in
    let ends = rw c.in-More.is at c.in-Ok.ensures.end in
    let same : (v : Verdict) → Judges bytes v → IfSome (before.left Queries) (λ t. Judges t v) =
    λ v judged. judged_past (before.left Queries) (after.left Queries) bytes v (rw c.deref-in-More.ensures.value c.in-Ok.ensures.front) (rw c.deref-in-More.ensures.value ends) judged in
    let size : length bytes ≡ most_bytes + 1 = rw c.deref-in-More.ensures.value ends in
    let more : most_bytes < length bytes = omega (arith, size) in
    IfOk-weaker c.judge_text-in-More.result (λ catalogue. Accepts bytes (judged_in catalogue)) (λ catalogue. HasRead (judged_in catalogue) before after)
    (λ catalogue accepts. record {
      accepts = same (Accepted (judged_in catalogue)) accepts;
      read_faults = rw c.in-More.is at c.in-Ok.ensures.quiet;
      none_failed = rw c.in-More.is at c.in-Ok.ensures.last;
      read = absurd (not_past bytes (judged_in catalogue) more accepts);
    }) c.judge_text-in-More.ensures.accepted

-- the queries are past the limit
pub returns-clause-fails : goal.returns-clause-fails
returns-clause-fails g c =
    let before = g.H.Host.told c.args.host.now in
    let after = g.H.Host.told c.read_side.new.host in
    let bytes = c.deref-in-More.result.now in
    let ends = rw c.in-More.is at c.in-Ok.ensures.end in
    let same : (v : Verdict) → Judges bytes v → IfSome (before.left Queries) (λ t. Judges t v) =
    λ v judged. judged_past (before.left Queries) (after.left Queries) bytes v (rw c.deref-in-More.ensures.value c.in-Ok.ensures.front) (rw c.deref-in-More.ensures.value ends) judged in
    IfErr-weaker c.judge_text-in-More.result (TextFails bytes) (QueriesFail before after) (λ status f. text_fails before after bytes status same f) c.judge_text-in-More.ensures.fails

-- no call failed while the text was read
pub returns-in-Whole-clause-blames : goal.returns-in-Whole-clause-blames
returns-in-Whole-clause-blames g c =
    let same = c.read_side.ensures.same in
    IfErr-weaker c.judge_text.result (TextFails c.deref.result.now) (BlamesHost (g.H.Host.told c.args.host.now) (g.H.Host.told c.read_side.new.host))
    (λ status f. blames_none status (text_tells_none c.deref.result.now status f) (record { attach = same.attach_faults; read = rw c.in-Whole.is at c.in-Ok.ensures.quiet; write = same.write_faults; last = rw c.in-Whole.is at c.in-Ok.ensures.last })) c.judge_text.ensures.fails

pub returns-clause-blames : goal.returns-clause-blames
returns-clause-blames g c =
    let same = c.read_side.ensures.same in
    IfErr-weaker c.judge_text-in-More.result (TextFails c.deref-in-More.result.now) (BlamesHost (g.H.Host.told c.args.host.now) (g.H.Host.told c.read_side.new.host))
    (λ status f. blames_none status (text_tells_none c.deref-in-More.result.now status f) (record { attach = same.attach_faults; read = rw c.in-More.is at c.in-Ok.ensures.quiet; write = same.write_faults; last = rw c.in-More.is at c.in-Ok.ensures.last })) c.judge_text-in-More.ensures.fails

-- a read failed
pub returns-in-Failed-clause-blames : goal.returns-in-Failed-clause-blames
returns-in-Failed-clause-blames g c =
    let same = c.read_side.ensures.same in
    record {
      attach = λ other. same.attach_faults;
      read = λ other. absurd (other Queries refl);
      write = λ other. same.write_faults;
      last = rw c.in-Failed.is at c.in-Ok.ensures.last;
    }
