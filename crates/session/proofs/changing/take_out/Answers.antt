use Rattle.std.proofs.Common.{refl}
use Rattle.change_laws.proofs.LeaveLemmas.{dropped_may_be_removed}
use Rattle.session.proofs.ChangeLemmas.{has_left, left_at_work}
use Rattle.session.proofs.changing.take_out.Goals as goal

-- the ends that the catalogue gave out may leave the engine
pub remove-requires-clause-apart : goal.remove-requires-clause-apart
remove-requires-clause-apart c =
    (dropped_may_be_removed c.args.query c.in_ok-dropped.dropped c.args.catalogue.now c.drop_at.new.self c.args.work.now.engine c.requires.at_work.in_order c.in_ok-dropped.ensures.stands c.requires.at_work.at_one c.requires.within c.in_ok-dropped.ensures.ok).apart

pub remove-requires-clause-there : goal.remove-requires-clause-there
remove-requires-clause-there c =
    (dropped_may_be_removed c.args.query c.in_ok-dropped.dropped c.args.catalogue.now c.drop_at.new.self c.args.work.now.engine c.requires.at_work.in_order c.in_ok-dropped.ensures.stands c.requires.at_work.at_one c.requires.within c.in_ok-dropped.ensures.ok).there

pub remove-requires-clause-fits : goal.remove-requires-clause-fits
remove-requires-clause-fits c =
    (dropped_may_be_removed c.args.query c.in_ok-dropped.dropped c.args.catalogue.now c.drop_at.new.self c.args.work.now.engine c.requires.at_work.in_order c.in_ok-dropped.ensures.stands c.requires.at_work.at_one c.requires.within c.in_ok-dropped.ensures.ok).fits

-- the layout has the part
pub remove-requires-clause-up : goal.remove-requires-clause-up
remove-requires-clause-up c =
    (dropped_may_be_removed c.args.query c.in_ok-dropped.dropped c.args.catalogue.now c.drop_at.new.self c.args.work.now.engine c.requires.at_work.in_order c.in_ok-dropped.ensures.stands c.requires.at_work.at_one c.requires.within c.in_ok-dropped.ensures.ok).has_part.up

pub remove-requires-clause-within : goal.remove-requires-clause-within
remove-requires-clause-within c =
    (dropped_may_be_removed c.args.query c.in_ok-dropped.dropped c.args.catalogue.now c.drop_at.new.self c.args.work.now.engine c.requires.at_work.in_order c.in_ok-dropped.ensures.stands c.requires.at_work.at_one c.requires.within c.in_ok-dropped.ensures.ok).has_part.within

pub remove-requires-clause-printed : goal.remove-requires-clause-printed
remove-requires-clause-printed c =
    (dropped_may_be_removed c.args.query c.in_ok-dropped.dropped c.args.catalogue.now c.drop_at.new.self c.args.work.now.engine c.requires.at_work.in_order c.in_ok-dropped.ensures.stands c.requires.at_work.at_one c.requires.within c.in_ok-dropped.ensures.ok).has_part.printed

-- the queries have changed
pub returns-clause-changed : goal.returns-clause-changed
returns-clause-changed c =
    has_left c.args.catalogue.now c.drop_at.new.self c.requires.at_work.in_order c.in_ok-dropped.ensures.stands c.args.work.now _ c.requires.at_work c.requires.closed c.args.query c.in_ok-dropped.dropped c.requires.within c.requires.unread c.in_ok-dropped.ensures.ok
    c.remove.ensures refl

-- and the work may go on
pub returns-clause-at_work : goal.returns-clause-at_work
returns-clause-at_work c =
    left_at_work c.args.catalogue.now c.drop_at.new.self c.requires.at_work.in_order c.in_ok-dropped.ensures.stands c.args.work.now _ c.requires.at_work c.requires.closed c.args.query c.in_ok-dropped.dropped c.requires.within c.requires.unread c.in_ok-dropped.ensures.ok
    c.remove.ensures refl refl (rw c.stream_of-stream.ensures.value at c.forget_front.ensures c.args.catalogue.now.streams c.requires.at_work.fronts)
