use Rattle.std.proofs.Common.{true, [], ◌∷◌, ◌++◌, refl, sym}
use Rattle.std.proofs.lemmas.Result.{err_from_is_err_and, on_ok_weaker}
use Rattle.courses.specs.Course.{Hears, events_at}
use Rattle.session.specs.Owes.{stage_at}
use Rattle.session.specs.Says.{entry_by, event_of}
use Rattle.session.proofs.RestLemmas.{closed_stands_for, none_left, one_left, through_closed}
use Rattle.session.proofs.OwesLemmas.{advances_ends, ends_same, last_ends, refused_by, refuses, stops_same}
use Rattle.session.proofs.TestsLemmas.{by_change, by_event, entry_rises, last_entry_rises, last_rises, lines_none}
use Rattle.session.proofs.lines.work_on_rest.Goals as goal

-- no line was left, and the open epoch was closed
pub returns-in-Ok-NotYet-clause-stands : goal.returns-in-Ok-NotYet-clause-stands
returns-in-Ok-NotYet-clause-stands g c =
    let shows = rw c.in-Ok-NotYet.field-0-is at c.in-Ok-NotYet.ensures.shows in
    let catalogue = c.args.catalogue.now in
    on_ok_weaker c.close_last.result
    (λ closed history stands. none_left catalogue catalogue history _ c.args.work.now c.close_last.new.work.engine shows refl (closed_stands_for catalogue c.args.work.now.engine c.close_last.new.work.engine history closed stands)) c.close_last.ensures.shut

pub returns-in-Ok-NotYet-clause-through : goal.returns-in-Ok-NotYet-clause-through
returns-in-Ok-NotYet-clause-through g c =
    on_ok_weaker c.close_last.result (through_closed c.args.catalogue.now c.args.work.now.engine c.close_last.new.work.engine c.requires.at_work.in_order c.requires.at_work.at_one) c.close_last.ensures.shut

pub returns-in-Ok-NotYet-clause-ends : goal.returns-in-Ok-NotYet-clause-ends
returns-in-Ok-NotYet-clause-ends g c =
    let shows = rw c.in-Ok-NotYet.field-0-is at c.in-Ok-NotYet.ensures.shows in
    λ history stands. ends_same true [] _ (stage_at c.args.catalogue.now c.args.work.now history) _ _ c.close_last.result shows (last_ends c.args.catalogue.now c.args.work.now history _ _ c.close_last.result (c.close_last.ensures.ends history stands))

-- the last event was taken, and its epoch was closed
pub returns-in_ok-work_on_event-in-Ok-Event-clause-stands : goal.returns-in_ok-work_on_event-in-Ok-Event-clause-stands
returns-in_ok-work_on_event-in-Ok-Event-clause-stands g c =
    let shows = rw c.in-Ok-Event.field-0-is at c.in-Ok-Event.ensures.shows in
    let last = c.close_last-in-Ok-Event in
    let catalogue = c.args.catalogue.now in
    on_ok_weaker last.result
    (λ closed history stands. let takes = c.in_ok-work_on_event-in-Ok-Event.ensures.more history stands in
    one_left catalogue catalogue history _ c.args.work.now last.new.work.engine shows.0 (Hears (event_of c.in-Ok-Event.line.event)) c.work_on_event.new.work _ _ shows.2 shows.1.1 takes
    (closed_stands_for catalogue c.work_on_event.new.work.engine last.new.work.engine _ closed takes.stands)) last.ensures.shut

pub returns-in_ok-work_on_event-in-Ok-Event-clause-through : goal.returns-in_ok-work_on_event-in-Ok-Event-clause-through
returns-in_ok-work_on_event-in-Ok-Event-clause-through g c =
    let last = c.close_last-in-Ok-Event in
    on_ok_weaker last.result (through_closed c.args.catalogue.now c.work_on_event.new.work.engine last.new.work.engine c.in_ok-work_on_event-in-Ok-Event.ensures.at_work.in_order c.in_ok-work_on_event-in-Ok-Event.ensures.at_work.at_one) last.ensures.shut

pub returns-in_ok-work_on_event-in-Ok-Event-clause-ends : goal.returns-in_ok-work_on_event-in-Ok-Event-clause-ends
returns-in_ok-work_on_event-in-Ok-Event-clause-ends g c =
    let shows = rw c.in-Ok-Event.field-0-is at c.in-Ok-Event.ensures.shows in
    let catalogue = c.args.catalogue.now in
    let last = c.close_last-in-Ok-Event in
    let event = event_of c.in-Ok-Event.line.event in
    let new = c.work_on_event.new.work in
    λ history stands. let takes = c.in_ok-work_on_event-in-Ok-Event.ensures.more history stands in
    ends_same true _ _ (stage_at catalogue c.args.work.now history) _ _ last.result shows.2
    (advances_ends true _ [] (stage_at catalogue c.args.work.now history) (stage_at catalogue new (history ++ event ∷ [])) _ _ _ last.result c.work_on_event.ensures.same.later
    (takes.advances true shows.0 [] shows.1.1) (last_ends catalogue new (history ++ event ∷ []) _ _ last.result (last.ensures.ends _ takes.stands)))

-- the last event wasn't taken
pub returns-in_err-work_on_event-in-Ok-Event-clause-ends : goal.returns-in_err-work_on_event-in-Ok-Event-clause-ends
returns-in_err-work_on_event-in-Ok-Event-clause-ends g c =
    let shows = rw c.in-Ok-Event.field-0-is at c.in-Ok-Event.ensures.shows in
    let p = err_from_is_err_and c.from_residual.result c.from_residual.ensures.1 in
    rw (p.1, p.2) (
    λ history stands. stops_same true _ _ (stage_at c.args.catalogue.now c.args.work.now history) _ _ _ shows.2
    (c.in_err-work_on_event-in-Ok-Event.ensures.stops true shows.0 [] history (sym shows.1.0) shows.1.1 stands)
    )

-- the queries were changed at the last line
pub returns-in_ok-work_on_change-in-Ok-Change-clause-stands : goal.returns-in_ok-work_on_change-in-Ok-Change-clause-stands
returns-in_ok-work_on_change-in-Ok-Change-clause-stands g c =
    let shows = rw c.in-Ok-Change.field-0-is at c.in-Ok-Change.ensures.shows in
    let last = c.close_last-in-Ok-Change in
    let old = c.args.catalogue.now in
    let new = c.work_on_change.new.catalogue in
    on_ok_weaker last.result
    (λ closed history stands. let takes = c.in_ok-work_on_change-in-Ok-Change.ensures.more history stands in
    one_left old new history _ c.args.work.now last.new.work.engine shows.0 (entry_by old c.in-Ok-Change.made.value) c.work_on_change.new.work _ _ shows.2 shows.1.0 takes
    (closed_stands_for new c.work_on_change.new.work.engine last.new.work.engine _ closed takes.stands)) last.ensures.shut

pub returns-in_ok-work_on_change-in-Ok-Change-clause-through : goal.returns-in_ok-work_on_change-in-Ok-Change-clause-through
returns-in_ok-work_on_change-in-Ok-Change-clause-through g c =
    let last = c.close_last-in-Ok-Change in
    on_ok_weaker last.result (through_closed c.work_on_change.new.catalogue c.work_on_change.new.work.engine last.new.work.engine c.in_ok-work_on_change-in-Ok-Change.ensures.at_work.in_order c.in_ok-work_on_change-in-Ok-Change.ensures.at_work.at_one) last.ensures.shut

pub returns-in_ok-work_on_change-in-Ok-Change-clause-ends : goal.returns-in_ok-work_on_change-in-Ok-Change-clause-ends
returns-in_ok-work_on_change-in-Ok-Change-clause-ends g c =
    let shows = rw c.in-Ok-Change.field-0-is at c.in-Ok-Change.ensures.shows in
    let old = c.args.catalogue.now in
    let then = c.work_on_change.new.catalogue in
    let last = c.close_last-in-Ok-Change in
    let new = c.work_on_change.new.work in
    λ history stands. let takes = c.in_ok-work_on_change-in-Ok-Change.ensures.more history stands in
    let heard = history ++ events_at (entry_by old c.in-Ok-Change.made.value) in
    ends_same true _ _ (stage_at old c.args.work.now history) _ _ last.result shows.2
    (advances_ends true _ [] (stage_at old c.args.work.now history) (stage_at then new heard) _ _ _ last.result c.work_on_change.ensures.same.later
    (takes.advances true shows.0 [] shows.1.0) (last_ends then new heard _ _ last.result (last.ensures.ends _ takes.stands)))

-- they weren't
pub returns-in_err-work_on_change-in-Ok-Change-clause-ends : goal.returns-in_err-work_on_change-in-Ok-Change-clause-ends
returns-in_err-work_on_change-in-Ok-Change-clause-ends g c =
    let shows = rw c.in-Ok-Change.field-0-is at c.in-Ok-Change.ensures.shows in
    let p = err_from_is_err_and c.from_residual-in_err-work_on_change-in-Ok-Change.result c.from_residual-in_err-work_on_change-in-Ok-Change.ensures.1 in
    rw (p.1, p.2) (
    λ history stands. stops_same true _ _ (stage_at c.args.catalogue.now c.args.work.now history) _ _ _ shows.2
    (c.in_err-work_on_change-in-Ok-Change.ensures.stops shows.0.number true shows.0 [] history refl shows.1.0 stands)
    )

-- the last line has a fault
pub returns-in-Ok-Refused-clause-ends : goal.returns-in-Ok-Refused-clause-ends
returns-in-Ok-Refused-clause-ends g c =
    let shows = rw c.in-Ok-Refused.field-0-is at c.in-Ok-Refused.ensures.shows in
    λ history stands. stops_same true _ _ (stage_at c.args.catalogue.now c.args.work.now history) _ _ c.refuse.result shows.2
    (refuses true shows.0 [] (stage_at c.args.catalogue.now c.args.work.now history) c.in-Ok-Refused.refused _ _ c.refuse.result
    (refused_by c.args.catalogue.now c.args.work.now.engine shows.0 c.in-Ok-Refused.refused shows.1) c.refuse.ensures.by)

-- no more is tested than what is left asks for
pub returns-in-Ok-NotYet-clause-tests : goal.returns-in-Ok-NotYet-clause-tests
returns-in-Ok-NotYet-clause-tests g c =
    let shows = rw c.in-Ok-NotYet.field-0-is at c.in-Ok-NotYet.ensures.shows in
    last_rises c.args.catalogue.now c.args.feed.now c.args.work.now.engine c.args.steps.now c.close_last.new.steps shows c.close_last.ensures.tests

pub returns-in_ok-work_on_event-in-Ok-Event-clause-tests : goal.returns-in_ok-work_on_event-in-Ok-Event-clause-tests
returns-in_ok-work_on_event-in-Ok-Event-clause-tests g c =
    let shows = rw c.in-Ok-Event.field-0-is at c.in-Ok-Event.ensures.shows in
    let catalogue = c.args.catalogue.now in
    let event = event_of c.in-Ok-Event.line.event in
    last_entry_rises catalogue catalogue c.args.feed.now shows.0 (Hears event) c.args.work.now c.work_on_event.new.work _ _ c.args.steps.now c.work_on_event.new.steps c.close_last-in-Ok-Event.new.steps shows.2 shows.1.1
    c.in_ok-work_on_event-in-Ok-Event.ensures.more (by_event catalogue event c.args.work.now.engine _ _ c.work_on_event.ensures.tests) c.close_last-in-Ok-Event.ensures.tests

pub returns-in_err-work_on_event-in-Ok-Event-clause-tests : goal.returns-in_err-work_on_event-in-Ok-Event-clause-tests
returns-in_err-work_on_event-in-Ok-Event-clause-tests g c =
    let shows = rw c.in-Ok-Event.field-0-is at c.in-Ok-Event.ensures.shows in
    let catalogue = c.args.catalogue.now in
    let event = event_of c.in-Ok-Event.line.event in
    entry_rises catalogue c.args.feed.now true shows.0 [] (Hears event) c.args.work.now.engine c.args.steps.now c.work_on_event.new.steps shows.2 shows.1.1 (by_event catalogue event c.args.work.now.engine _ _ c.work_on_event.ensures.tests)

pub returns-in_ok-work_on_change-in-Ok-Change-clause-tests : goal.returns-in_ok-work_on_change-in-Ok-Change-clause-tests
returns-in_ok-work_on_change-in-Ok-Change-clause-tests g c =
    let shows = rw c.in-Ok-Change.field-0-is at c.in-Ok-Change.ensures.shows in
    let old = c.args.catalogue.now in
    let made = c.in-Ok-Change.made.value in
    last_entry_rises old c.work_on_change.new.catalogue c.args.feed.now shows.0 (entry_by old made) c.args.work.now c.work_on_change.new.work _ _ c.args.steps.now c.work_on_change.new.steps c.close_last-in-Ok-Change.new.steps shows.2 shows.1.0
    c.in_ok-work_on_change-in-Ok-Change.ensures.more (by_change old made c.args.work.now.engine _ _ c.work_on_change.ensures.tests) c.close_last-in-Ok-Change.ensures.tests

pub returns-in_err-work_on_change-in-Ok-Change-clause-tests : goal.returns-in_err-work_on_change-in-Ok-Change-clause-tests
returns-in_err-work_on_change-in-Ok-Change-clause-tests g c =
    let shows = rw c.in-Ok-Change.field-0-is at c.in-Ok-Change.ensures.shows in
    let old = c.args.catalogue.now in
    let made = c.in-Ok-Change.made.value in
    entry_rises old c.args.feed.now true shows.0 [] (entry_by old made) c.args.work.now.engine c.args.steps.now c.work_on_change.new.steps shows.2 shows.1.0 (by_change old made c.args.work.now.engine _ _ c.work_on_change.ensures.tests)

-- nothing is tested without an entry and an end
pub returns-in-Err-clause-tests : goal.returns-in-Err-clause-tests
returns-in-Err-clause-tests g c = lines_none c.args.catalogue.now c.args.feed.now true c.args.work.now.engine c.args.steps.now

pub returns-in-Ok-Refused-clause-tests : goal.returns-in-Ok-Refused-clause-tests
returns-in-Ok-Refused-clause-tests g c = lines_none c.args.catalogue.now c.args.feed.now true c.args.work.now.engine c.args.steps.now
