use Rattle.std.proofs.Common.{ap, length, false, arith, refl, sym}
use Rattle.std.proofs.lemmas.Result.{err_from_is_err_and}
use Rattle.courses.specs.Course.{Hears}
use Rattle.event_csv.specs.Fed.{unread_lines}
use Rattle.session.specs.Owes.{stage_at}
use Rattle.session.specs.Says.{entry_by, event_of}
use Rattle.session.proofs.OwesLemmas.{refused_by, refuses, stops_same, took}
use Rattle.session.proofs.TestsLemmas.{by_change, by_event, entry_rises, lines_none, took_tests}
use Rattle.session.proofs.lines.work_on_line.Goals as goal

-- a line with a fault is refused
pub returns-in-Ok-Refused-clause-stops : goal.returns-in-Ok-Refused-clause-stops
returns-in-Ok-Refused-clause-stops g c =
    let shows = rw c.in-Ok-Refused.field-0-is at c.in-Ok-Refused.ensures.shows in
    let left = shows.2 false in
    let told = g.H.Host.told in
    λ history stands. stops_same false _ _ (stage_at c.args.catalogue.now c.args.work.now history) (told c.args.host.now) (told c.refuse.new.host) c.refuse.result left.1
    (refuses false shows.0 left.0 (stage_at c.args.catalogue.now c.args.work.now history) c.in-Ok-Refused.refusal.value (told c.args.host.now) (told c.refuse.new.host) c.refuse.result
    (refused_by c.args.catalogue.now c.args.work.now.engine shows.0 c.in-Ok-Refused.refusal.value shows.1) (rw c.into_inner.ensures at c.refuse.ensures.by))

-- an event was taken
pub returns-in_ok-work_on_event-in-Ok-Event-clause-progress : goal.returns-in_ok-work_on_event-in-Ok-Event-clause-progress
returns-in_ok-work_on_event-in-Ok-Event-clause-progress g c =
    let shows = rw c.in-Ok-Event.field-0-is at c.in-Ok-Event.ensures.shows in
    let more = rw c.take_spare-spare.ensures.kept at c.in_ok-work_on_event-in-Ok-Event.ensures.more in (
      λ history stands. took shows.0 (unread_lines c.args.feed.now false) (unread_lines c.next_reading.new.feed false) (shows.2 false) shows.1.1 (more history stands),
      let fewer = ap length (shows.2 false) in omega (arith, fewer),
    )

-- an event wasn't taken
pub returns-in_err-work_on_event-in-Ok-Event-clause-stops : goal.returns-in_err-work_on_event-in-Ok-Event-clause-stops
returns-in_err-work_on_event-in-Ok-Event-clause-stops g c =
    let shows = rw c.in-Ok-Event.field-0-is at c.in-Ok-Event.ensures.shows in
    let stops = rw c.take_spare-spare.ensures.kept at c.in_err-work_on_event-in-Ok-Event.ensures.stops in
    let p = err_from_is_err_and c.from_residual.result c.from_residual.ensures.1 in
    rw (p.1, p.2) (
    λ history stands. stops_same false _ _ (stage_at c.args.catalogue.now c.args.work.now history) (g.H.Host.told c.args.host.now) (g.H.Host.told c.work_on_event.new.host) _ (shows.2 false)
    (stops false shows.0 (unread_lines c.next_reading.new.feed false) history (sym shows.1.0) shows.1.1 stands)
    )

-- the queries were changed
pub returns-in_ok-work_on_change-in-Ok-Change-clause-progress : goal.returns-in_ok-work_on_change-in-Ok-Change-clause-progress
returns-in_ok-work_on_change-in-Ok-Change-clause-progress g c =
    let shows = rw c.in-Ok-Change.field-0-is at c.in-Ok-Change.ensures.shows in
    let more = rw c.take_spare-spare.ensures.kept at c.in_ok-work_on_change-in-Ok-Change.ensures.more in (
      λ history stands. took shows.0 (unread_lines c.args.feed.now false) (unread_lines c.next_reading.new.feed false) (shows.2 false) shows.1.0 (more history stands),
      let fewer = ap length (shows.2 false) in omega (arith, fewer),
    )

-- they weren't
pub returns-in_err-work_on_change-in-Ok-Change-clause-stops : goal.returns-in_err-work_on_change-in-Ok-Change-clause-stops
returns-in_err-work_on_change-in-Ok-Change-clause-stops g c =
    let shows = rw c.in-Ok-Change.field-0-is at c.in-Ok-Change.ensures.shows in
    let stops = rw c.take_spare-spare.ensures.kept at c.in_err-work_on_change-in-Ok-Change.ensures.stops in
    let p = err_from_is_err_and c.from_residual-in_err-work_on_change-in-Ok-Change.result c.from_residual-in_err-work_on_change-in-Ok-Change.ensures.1 in
    rw (p.1, p.2) (
    λ history stands. stops_same false _ _ (stage_at c.args.catalogue.now c.args.work.now history) (g.H.Host.told c.args.host.now) (g.H.Host.told c.work_on_change.new.host) _ (shows.2 false)
    (stops shows.0.number false shows.0 (unread_lines c.next_reading.new.feed false) history refl shows.1.0 stands)
    )

-- no more is tested than the lines ask for
pub returns-in_ok-work_on_event-in-Ok-Event-clause-tests : goal.returns-in_ok-work_on_event-in-Ok-Event-clause-tests
returns-in_ok-work_on_event-in-Ok-Event-clause-tests g c =
    let shows = rw c.in-Ok-Event.field-0-is at c.in-Ok-Event.ensures.shows in
    let tests = rw c.take_spare-spare.ensures.kept at c.work_on_event.ensures.tests in
    let event = event_of c.in-Ok-Event.line.event in
    entry_rises c.args.catalogue.now c.args.feed.now false shows.0 _ (Hears event) c.args.work.now.engine c.args.steps.now c.work_on_event.new.steps (shows.2 false) shows.1.1 (by_event c.args.catalogue.now event c.args.work.now.engine _ _ tests)

pub returns-in_err-work_on_event-in-Ok-Event-clause-tests : goal.returns-in_err-work_on_event-in-Ok-Event-clause-tests
returns-in_err-work_on_event-in-Ok-Event-clause-tests g c =
    let shows = rw c.in-Ok-Event.field-0-is at c.in-Ok-Event.ensures.shows in
    let tests = rw c.take_spare-spare.ensures.kept at c.work_on_event.ensures.tests in
    let event = event_of c.in-Ok-Event.line.event in
    entry_rises c.args.catalogue.now c.args.feed.now false shows.0 _ (Hears event) c.args.work.now.engine c.args.steps.now c.work_on_event.new.steps (shows.2 false) shows.1.1 (by_event c.args.catalogue.now event c.args.work.now.engine _ _ tests)

pub returns-in_ok-work_on_event-in-Ok-Event-clause-moved : goal.returns-in_ok-work_on_event-in-Ok-Event-clause-moved
returns-in_ok-work_on_event-in-Ok-Event-clause-moved g c =
    let shows = rw c.in-Ok-Event.field-0-is at c.in-Ok-Event.ensures.shows in
    let more = rw c.take_spare-spare.ensures.kept at c.in_ok-work_on_event-in-Ok-Event.ensures.more in
    let tests = rw c.take_spare-spare.ensures.kept at c.work_on_event.ensures.tests in
    let event = event_of c.in-Ok-Event.line.event in
    λ is history stands. took_tests c.args.catalogue.now c.args.catalogue.now shows.0 _ _ (Hears event) history c.args.work.now c.work_on_event.new.work _ _ c.args.steps.now c.work_on_event.new.steps (shows.2 false) shows.1.1 (more history stands) stands
    (by_event c.args.catalogue.now event c.args.work.now.engine _ _ tests)

pub returns-in_ok-work_on_change-in-Ok-Change-clause-tests : goal.returns-in_ok-work_on_change-in-Ok-Change-clause-tests
returns-in_ok-work_on_change-in-Ok-Change-clause-tests g c =
    let shows = rw c.in-Ok-Change.field-0-is at c.in-Ok-Change.ensures.shows in
    let tests = rw c.take_spare-spare.ensures.kept at c.work_on_change.ensures.tests in
    let made = c.in-Ok-Change.made.value in
    entry_rises c.args.catalogue.now c.args.feed.now false shows.0 _ (entry_by c.args.catalogue.now made) c.args.work.now.engine c.args.steps.now c.work_on_change.new.steps (shows.2 false) shows.1.0 (by_change c.args.catalogue.now made c.args.work.now.engine _ _ tests)

pub returns-in_err-work_on_change-in-Ok-Change-clause-tests : goal.returns-in_err-work_on_change-in-Ok-Change-clause-tests
returns-in_err-work_on_change-in-Ok-Change-clause-tests g c =
    let shows = rw c.in-Ok-Change.field-0-is at c.in-Ok-Change.ensures.shows in
    let tests = rw c.take_spare-spare.ensures.kept at c.work_on_change.ensures.tests in
    let made = c.in-Ok-Change.made.value in
    entry_rises c.args.catalogue.now c.args.feed.now false shows.0 _ (entry_by c.args.catalogue.now made) c.args.work.now.engine c.args.steps.now c.work_on_change.new.steps (shows.2 false) shows.1.0 (by_change c.args.catalogue.now made c.args.work.now.engine _ _ tests)

pub returns-in_ok-work_on_change-in-Ok-Change-clause-moved : goal.returns-in_ok-work_on_change-in-Ok-Change-clause-moved
returns-in_ok-work_on_change-in-Ok-Change-clause-moved g c =
    let shows = rw c.in-Ok-Change.field-0-is at c.in-Ok-Change.ensures.shows in
    let more = rw c.take_spare-spare.ensures.kept at c.in_ok-work_on_change-in-Ok-Change.ensures.more in
    let tests = rw c.take_spare-spare.ensures.kept at c.work_on_change.ensures.tests in
    let made = c.in-Ok-Change.made.value in
    λ is history stands. took_tests c.args.catalogue.now c.work_on_change.new.catalogue shows.0 _ _ (entry_by c.args.catalogue.now made) history c.args.work.now c.work_on_change.new.work _ _ c.args.steps.now c.work_on_change.new.steps (shows.2 false) shows.1.0 (more history stands) stands
    (by_change c.args.catalogue.now made c.args.work.now.engine _ _ tests)

-- nothing is tested without an entry
pub returns-in-Err-clause-tests : goal.returns-in-Err-clause-tests
returns-in-Err-clause-tests g c = lines_none c.args.catalogue.now c.args.feed.now false c.args.work.now.engine c.args.steps.now

pub returns-in-Ok-NotYet-clause-tests : goal.returns-in-Ok-NotYet-clause-tests
returns-in-Ok-NotYet-clause-tests g c = lines_none c.args.catalogue.now c.args.feed.now false c.args.work.now.engine c.args.steps.now

pub returns-in-Ok-Refused-clause-tests : goal.returns-in-Ok-Refused-clause-tests
returns-in-Ok-Refused-clause-tests g c = lines_none c.args.catalogue.now c.args.feed.now false c.args.work.now.engine c.args.steps.now
