use Rattle.std.proofs.Common.{◌∙◌, sym, subst}
use Rattle.session.specs.BatchLines.{AreOfKnown}
use Rattle.session.specs.Standing.{HasClosed}
use Rattle.session.proofs.ClosedLemmas.{rows_closed, still_stands}
use Rattle.session.proofs.PlanLemmas.{batch_known}
use Rattle.session.proofs.TestsLemmas.{open_rises}
use Rattle.session.proofs.closing.close_epoch.Goals as goal

-- the streams of the batch are known
pub put_batch-requires-clause-known : goal.put_batch-requires-clause-known
put_batch-requires-clause-known g c =
    subst (λ streams. AreOfKnown streams c.in_ok-batch.batch) (sym c.streams.ensures.value)
    (batch_known c.args.catalogue.now c.requires.at_work.in_order c.args.work.now.engine c.close.new.self c.in_ok-batch.batch c.requires.at_work.at_one c.in_ok-batch.ensures.closed)

-- the rows of the epoch were put
pub returns-clause-rows : goal.returns-clause-rows
returns-clause-rows g c = λ history stands.
    rows_closed c.args.catalogue.now c.requires.at_work.in_order c.args.work.now.engine c.close.new.self c.in_ok-batch.batch c.requires.at_work.at_one c.in_ok-batch.ensures.closed history stands
    c.args.work.now.rows c.put_batch.new.rows (rw c.streams.ensures.value at c.in_ok-put_batch.ensures.put)

-- the epoch is closed
pub returns-clause-closed : goal.returns-clause-closed
returns-clause-closed g c =
    let closes = c.in_ok-batch.ensures.closed in
    subst (HasClosed c.args.catalogue.now c.args.work.now.engine) (sym c.take_back.ensures) (record {
      plan = c.in_ok-batch.ensures.plan;
      none_open = closes.none_open;
      now_closed = closes.now_closed ∙ sym closes.was_open;
      stands = λ history stands. still_stands c.args.catalogue.now c.requires.at_work.in_order c.args.work.now.engine c.close.new.self c.in_ok-batch.batch c.requires.at_work.at_one closes history stands c.in_ok-batch.ensures.plan;
    })

-- it tests no more than the epoch asks for
pub returns-in_err-batch-clause-tests : goal.returns-in_err-batch-clause-tests
returns-in_err-batch-clause-tests g c = open_rises c.args.catalogue.now c.requires.at_work.in_order c.args.work.now.engine c.args.steps.now c.close.new.steps c.requires.at_work.at_one c.requires.opened c.close.ensures.work

pub returns-in_err-put_batch-clause-tests : goal.returns-in_err-put_batch-clause-tests
returns-in_err-put_batch-clause-tests g c = open_rises c.args.catalogue.now c.requires.at_work.in_order c.args.work.now.engine c.args.steps.now c.close.new.steps c.requires.at_work.at_one c.requires.opened c.close.ensures.work

pub returns-clause-tests : goal.returns-clause-tests
returns-clause-tests g c = open_rises c.args.catalogue.now c.requires.at_work.in_order c.args.work.now.engine c.args.steps.now c.close.new.steps c.requires.at_work.at_one c.requires.opened c.close.ensures.work
