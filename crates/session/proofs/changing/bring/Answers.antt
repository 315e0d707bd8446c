use Rattle.std.proofs.Common.{refl}
use Rattle.catalogue.specs.Taking.{added_of}
use Rattle.change_laws.proofs.ComeLemmas.{told_may_be_added}
use Rattle.session.proofs.ChangeLemmas.{come_at_work, has_come, latest_later}
use Rattle.session.proofs.changing.bring.Goals as goal

-- no query was born later
pub take-requires-clause-born : goal.take-requires-clause-born
take-requires-clause-born c = latest_later c.args.catalogue.now c.args.work.now.born c.last_closed-since.result c.requires.at_work.born (c.is_before.ensures.0 c.if-is_before.false)

-- the engine may be given what the catalogue told
pub add-requires-clause-as_many : goal.add-requires-clause-as_many
add-requires-clause-as_many c =
    (told_may_be_added (added_of c.args.query) c.last_closed-since.result c.in_ok-added.added c.args.catalogue.now c.take.new.self c.args.work.now.engine c.requires.at_work.in_order c.in_ok-added.ensures.stands c.requires.at_work.at_one c.in_ok-added.ensures.come
    c.in_ok-added.ensures.told).as_many

pub add-requires-clause-apart : goal.add-requires-clause-apart
add-requires-clause-apart c =
    (told_may_be_added (added_of c.args.query) c.last_closed-since.result c.in_ok-added.added c.args.catalogue.now c.take.new.self c.args.work.now.engine c.requires.at_work.in_order c.in_ok-added.ensures.stands c.requires.at_work.at_one c.in_ok-added.ensures.come
    c.in_ok-added.ensures.told).apart

pub add-requires-clause-fresh : goal.add-requires-clause-fresh
add-requires-clause-fresh c =
    (told_may_be_added (added_of c.args.query) c.last_closed-since.result c.in_ok-added.added c.args.catalogue.now c.take.new.self c.args.work.now.engine c.requires.at_work.in_order c.in_ok-added.ensures.stands c.requires.at_work.at_one c.in_ok-added.ensures.come
    c.in_ok-added.ensures.told).fresh

pub add-requires-clause-fits : goal.add-requires-clause-fits
add-requires-clause-fits c =
    (told_may_be_added (added_of c.args.query) c.last_closed-since.result c.in_ok-added.added c.args.catalogue.now c.take.new.self c.args.work.now.engine c.requires.at_work.in_order c.in_ok-added.ensures.stands c.requires.at_work.at_one c.in_ok-added.ensures.come
    c.in_ok-added.ensures.told).fits

-- the queries have changed
pub returns-clause-changed : goal.returns-clause-changed
returns-clause-changed c =
    has_come c.args.catalogue.now c.take.new.self c.requires.at_work.in_order c.in_ok-added.ensures.stands c.args.work.now _ c.requires.at_work c.requires.closed (added_of c.args.query) c.last_closed-since.result c.in_ok-added.added c.last_closed-since.ensures c.in_ok-added.ensures.come
    c.in_ok-added.ensures.told c.in_ok-add.ensures.added refl

-- and the work may go on
pub returns-clause-at_work : goal.returns-clause-at_work
returns-clause-at_work c =
    come_at_work c.args.catalogue.now c.take.new.self c.requires.at_work.in_order c.in_ok-added.ensures.stands c.args.work.now _ c.requires.at_work c.requires.closed (added_of c.args.query) c.last_closed-since.result c.in_ok-added.added c.last_closed-since.ensures
    c.in_ok-added.ensures.come c.in_ok-added.ensures.told c.in_ok-add.ensures.added (latest_later c.args.catalogue.now c.args.work.now.born c.last_closed-since.result c.requires.at_work.born (c.is_before.ensures.0 c.if-is_before.false)) refl refl refl
