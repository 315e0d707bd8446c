use Rattle.std.proofs.Common.{List, ℕ, [], false, subst}
use Rattle.std.proofs.lemmas.Result.{err_from_is_err_and}
use Rattle.cay_host.specs.Output.{WrotePart}
use Rattle.event_csv.specs.Fed.{unread_lines}
use Rattle.session.specs.declared.fault.SessionFault.TheVariants as fault
use Rattle.session.specs.Owes.{stage_at}
use Rattle.session.proofs.OwesLemmas.{advances_stops, nothing_left}
use Rattle.session.proofs.RestLemmas.{hears_all}
use Rattle.session.proofs.lines.work_on_lines.Goals as goal

-- the rows couldn't be written
pub returns-in_err-write_rows-clause-ends : goal.returns-in_err-write_rows-clause-ends
returns-in_err-write_rows-clause-ends g c =
    let told = g.H.Host.told in
    let p = err_from_is_err_and c.from_residual-in_err-write_rows.result c.from_residual-in_err-write_rows.ensures.1 in
    rw (p.1, p.2) (λ history stands. let gone = c.in_ok-work_through.ensures.goes_on history stands in
    let then = stage_at c.work_through.new.catalogue c.work_through.new.work gone.heard in
    advances_stops false (unread_lines c.args.feed.now false) [] (stage_at c.args.catalogue.now c.args.work.now history) then
    (told c.args.host.now) (told c.work_through.new.host) (told c.write_rows.new.host) fault.WriteFault
    c.work_through.ensures.same.later gone.advances
    (c.in_err-write_rows.ensures.cause, subst (λ (t : List ℕ). WrotePart t (told c.work_through.new.host) (told c.write_rows.new.host)) (nothing_left then) c.in_err-write_rows.ensures.part))

-- all lines were heard
pub returns-clause-stands : goal.returns-clause-stands
returns-clause-stands g c = λ history stands. hears_all c.args.catalogue.now c.work_through.new.catalogue (unread_lines c.args.feed.now false) history c.args.work.now c.work_through.new.work (g.H.Host.told c.args.host.now) (g.H.Host.told c.work_through.new.host)
    (c.in_ok-work_through.ensures.goes_on history stands)
