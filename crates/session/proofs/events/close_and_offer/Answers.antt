use Rattle.std.proofs.Common.{ap, ℕ, List, length, ◌<◌, refl, subst, sym, ◌∙◌, ◌++◌, ◌∷◌, []}
use Rattle.std.proofs.lemmas.Result.{err_from_is_err_and}
use Rattle.catalogue.specs.Coming.{IsLatest}
use Rattle.epoch_engine.specs.EngineView as engine
use Rattle.courses.specs.Course.{Hears}
use Rattle.session.specs.Owes.{stage_at}
use Rattle.session.specs.Says.{event_of}
use Rattle.session.specs.Fronts.{AreFronts}
use Rattle.session.proofs.StandsLemmas.{at_work_more, may_offer, stands_more}
use Rattle.session.proofs.OwesLemmas.{event_closes, fails, goes_on, heard_moment, no_memory, now_fails, now_owes}
use Rattle.session.proofs.events.close_and_offer.Goals as goal

-- the engine may be offered the event
pub offer_event-requires-clause-heard : goal.offer_event-requires-clause-heard
offer_event-requires-clause-heard g c =
    may_offer c.args.catalogue.now c.requires.at_work.in_order c.args.line.event c.requires.fits c.args.work.now.engine c.close_before.new.work.engine (rw c.at-at.ensures.value at c.in_ok-close_before.ensures.ready) c.requires.at_work.at_one

-- the open epoch was closed, and then there was no memory for the event
pub returns-in_err-offer_event-clause-stops : goal.returns-in_err-offer_event-clause-stops
returns-in_err-offer_event-clause-stops g c =
    let p = err_from_is_err_and c.from_residual-in_err-offer_event.result c.from_residual-in_err-offer_event.ensures.1 in
    let catalogue = c.args.catalogue.now in
    let work = c.args.work.now in
    let event = event_of c.args.line.event in
    rw (p.1, p.2) (λ ended line lines history number says stands.
    no_memory ended line lines (stage_at catalogue work history) (Hears event) says (c.requires.timely line.number) c.close_before.new.work.rows _ _
    (now_owes work.rows c.close_before.new.work.rows _ _ _ _ (event_closes catalogue work.engine history event) (rw c.at-at.ensures.value at c.in_ok-close_before.ensures.owes history stands)))

-- the rows of the open epoch couldn't be made or written
pub returns-in_err-close_before-clause-stops : goal.returns-in_err-close_before-clause-stops
returns-in_err-close_before-clause-stops g c =
    let p = err_from_is_err_and c.from_residual.result c.from_residual.ensures.1 in
    let catalogue = c.args.catalogue.now in
    let work = c.args.work.now in
    let event = event_of c.args.line.event in
    rw (p.1, p.2) (λ ended line lines history number says stands.
    fails ended line lines (stage_at catalogue work history) (Hears event) says (c.requires.timely line.number) _ _ _
    (now_fails work.rows _ _ _ _ _ (event_closes catalogue work.engine history event) (rw c.at-at.ensures.value at c.in_err-close_before.ensures.fails history stands)))

-- the open epoch was closed, and the event heard
pub returns-clause-more : goal.returns-clause-more
returns-clause-more g c = λ history stands.
    let catalogue = c.args.catalogue.now in
    let old = c.args.work.now in
    let mid = c.close_before.new.work in
    let new = c.offer_event.new.work in
    let event = event_of c.args.line.event in
    let ready = rw c.at-at.ensures.value at c.in_ok-close_before.ensures.ready in
    let owes = rw c.at-at.ensures.value at c.in_ok-close_before.ensures.owes history stands in
    record {
      stands = stands_more catalogue c.requires.at_work.in_order c.args.line.event c.requires.fits old.engine mid.engine ready c.requires.at_work.at_one new c.in_ok-offer_event.ensures.heard history c.at-at.ensures.in_order stands;
      advances = λ ended line lines says. goes_on ended line lines (stage_at catalogue old history) (Hears event) says (c.requires.timely line.number) (stage_at catalogue new (history ++ event ∷ [])) mid.rows _ _
          (now_owes old.rows mid.rows _ _ _ _ (event_closes catalogue old.engine history event) owes) c.in_ok-offer_event.ensures.rows
          (heard_moment catalogue old.engine new.engine event (ap (λ (now : engine.EngineView). now.time) c.in_ok-offer_event.ensures.heard)) refl;
    }

-- the work may go on
pub returns-clause-at_work : goal.returns-clause-at_work
returns-clause-at_work g c =
    at_work_more c.args.catalogue.now c.requires.at_work.in_order c.args.line.event c.requires.fits c.args.work.now.engine c.close_before.new.work.engine (rw c.at-at.ensures.value at c.in_ok-close_before.ensures.ready) c.requires.at_work.at_one
    c.offer_event.new.work c.in_ok-offer_event.ensures.heard (subst (λ time. IsLatest time c.args.catalogue.now) (sym (c.in_ok-offer_event.ensures.born ∙ c.close_before.ensures.born)) c.requires.at_work.born) (subst (AreFronts c.args.catalogue.now.streams) (sym c.in_ok-offer_event.ensures.fronts) c.in_ok-close_before.ensures.fronts)
    (subst (λ (bytes : List ℕ). length bytes < 65536) (sym c.in_ok-offer_event.ensures.rows) c.in_ok-close_before.ensures.few)

-- its closing tests no more than the open epoch asks for
pub returns-in_err-close_before-clause-tests : goal.returns-in_err-close_before-clause-tests
returns-in_err-close_before-clause-tests g c = rw c.at-at.ensures.value at c.close_before.ensures.tests

pub returns-in_err-offer_event-clause-tests : goal.returns-in_err-offer_event-clause-tests
returns-in_err-offer_event-clause-tests g c = rw c.at-at.ensures.value at c.close_before.ensures.tests

pub returns-clause-tests : goal.returns-clause-tests
returns-clause-tests g c = rw c.at-at.ensures.value at c.close_before.ensures.tests
