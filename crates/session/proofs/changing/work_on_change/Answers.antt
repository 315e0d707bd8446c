use Rattle.std.proofs.lemmas.Result.{err_from_is_err_and}
use Rattle.session.proofs.ChangeLemmas.{change_advances, change_fails, change_no_memory}
use Rattle.session.proofs.changing.work_on_change.Goals as goal

-- the queries were changed behind the open epoch
pub returns-clause-more : goal.returns-clause-more
returns-clause-more g c =
    change_advances c.args.catalogue.now c.args.made.value c.args.work.now c.close_open.new.work _ _ c.in_ok-close_open.ensures.owes c.change.new.catalogue c.change.new.work c.in_ok-close_open.ensures.shut (rw c.into_inner-made.ensures at c.in_ok-change.ensures.changed)

-- there was no memory for the change
pub returns-in_err-change-clause-stops : goal.returns-in_err-change-clause-stops
returns-in_err-change-clause-stops g c =
    let p = err_from_is_err_and c.from_residual-in_err-change.result c.from_residual-in_err-change.ensures.1 in
    rw (p.1, p.2) (change_no_memory c.args.catalogue.now c.args.made.value c.args.work.now c.close_open.new.work _ _ c.in_ok-close_open.ensures.owes)

-- the rows of the open epoch couldn't be made or written
pub returns-in_err-close_open-clause-stops : goal.returns-in_err-close_open-clause-stops
returns-in_err-close_open-clause-stops g c =
    let p = err_from_is_err_and c.from_residual.result c.from_residual.ensures.1 in
    rw (p.1, p.2) (change_fails c.args.catalogue.now c.args.made.value c.args.work.now _ _ _ c.in_err-close_open.ensures.fails)

-- the change of the box may be made
pub change-requires-clause-may : goal.change-requires-clause-may
change-requires-clause-may g c = rw c.into_inner-made.ensures c.requires.may
