use Rattle.std.proofs.Common.{List, ℕ, sym, subst, Option}
use Rattle.std.proofs.lemmas.Result.{err_from_is_err_and}
use Rattle.epoch_engine.specs.Offers.{IsNotAhead}
use Rattle.cay_host.specs.Output.{WrotePart}
use Rattle.session.specs.Standing.{program_over}
use Rattle.session.proofs.ClosedLemmas.{closed_rows, owes_closed}
use Rattle.session.proofs.StandsLemmas.{ready_later, ready_now}
use Rattle.session.proofs.TestsLemmas.{closing_rises}
use Rattle.session.proofs.closing.close_before.Goals as goal
use Rattle.session.proofs.closing.close_before.Goals.{in_default-via-in-Some+else-seen-at, in_default-via-in_default}

-- the rows of the open epoch were put, and written if there were many
pub returns-in_ok-write_if_full-in-Some-clause-owes : goal.returns-in_ok-write_if_full-in-Some-clause-owes
returns-in_ok-write_if_full-in-Some-clause-owes g c = λ history stands.
    let work = c.args.work.now in
    owes_closed (program_over c.args.catalogue.now) history work.engine.time c.in-Some.seen c.args.at (sym c.in-Some.ensures) c.if-seen-at.true work.rows c.close_epoch.new.work.rows (c.in_ok-close_epoch-in-Some.ensures.rows history stands)
    c.write_if_full.new.rows (g.H.Host.told c.args.host.now) (g.H.Host.told c.write_if_full.new.host) c.in_ok-write_if_full-in-Some.ensures.ok

-- a later event may be offered
pub returns-in_ok-write_if_full-in-Some-clause-ready : goal.returns-in_ok-write_if_full-in-Some-clause-ready
returns-in_ok-write_if_full-in-Some-clause-ready g c = ready_later c.args.catalogue.now c.in-Some.seen c.args.at c.args.work.now.engine c.close_epoch.new.work.engine c.in_ok-close_epoch-in-Some.ensures.closed (sym c.in-Some.ensures) c.if-seen-at.true

-- they couldn't be written
pub returns-in_err-write_if_full-in-Some-clause-fails : goal.returns-in_err-write_if_full-in-Some-clause-fails
returns-in_err-write_if_full-in-Some-clause-fails g c =
    let p = err_from_is_err_and c.from_residual-in_err-write_if_full-in-Some.result c.from_residual-in_err-write_if_full-in-Some.ensures.1 in
    rw (p.1, p.2) (λ history stands.
    let work = c.args.work.now in
    let same = closed_rows (program_over c.args.catalogue.now) history work.engine.time c.in-Some.seen c.args.at (sym c.in-Some.ensures) c.if-seen-at.true work.rows c.close_epoch.new.work.rows (c.in_ok-close_epoch-in-Some.ensures.rows history stands) in
    (c.in_err-write_if_full-in-Some.ensures.cause, subst (λ (t : List ℕ). WrotePart t (g.H.Host.told c.args.host.now) (g.H.Host.told c.write_if_full.new.host)) same c.in_err-write_if_full-in-Some.ensures.part))

-- the event is of the open epoch, or none is open
pub returns-in_default-clause-ready : goal.returns-in_default-clause-ready
returns-in_default-clause-ready g c = elim c.in_default.branch [
  | in_default-via-in-Some+else-seen-at w ↦
      ready_now c.args.catalogue.now c.args.at c.args.work.now.engine c.requires.timely (subst (λ (o : Option ℕ). IsNotAhead o c.args.at) w.in-Some.ensures w.if-seen-at.false)
  | in_default-via-in_default w ↦ ready_now c.args.catalogue.now c.args.at c.args.work.now.engine c.requires.timely (subst (λ (o : Option ℕ). IsNotAhead o c.args.at) w.in_default.ensures tt)
]

-- the closing tests no more than the epoch asks for
pub returns-in_ok-write_if_full-in-Some-clause-tests : goal.returns-in_ok-write_if_full-in-Some-clause-tests
returns-in_ok-write_if_full-in-Some-clause-tests g c =
    closing_rises c.args.catalogue.now c.args.work.now.engine c.in-Some.seen c.args.at c.args.steps.now c.close_epoch.new.steps (sym c.in-Some.ensures) c.if-seen-at.true c.close_epoch.ensures.tests

pub returns-in_err-write_if_full-in-Some-clause-tests : goal.returns-in_err-write_if_full-in-Some-clause-tests
returns-in_err-write_if_full-in-Some-clause-tests g c =
    closing_rises c.args.catalogue.now c.args.work.now.engine c.in-Some.seen c.args.at c.args.steps.now c.close_epoch.new.steps (sym c.in-Some.ensures) c.if-seen-at.true c.close_epoch.ensures.tests

pub returns-in_err-close_epoch-in-Some-clause-tests : goal.returns-in_err-close_epoch-in-Some-clause-tests
returns-in_err-close_epoch-in-Some-clause-tests g c =
    closing_rises c.args.catalogue.now c.args.work.now.engine c.in-Some.seen c.args.at c.args.steps.now c.close_epoch.new.steps (sym c.in-Some.ensures) c.if-seen-at.true c.close_epoch.ensures.tests
