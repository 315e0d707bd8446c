use Rattle.std.proofs.Common.{◌∙◌, ℕ, List, true, ap, refl, subst}
use Rattle.courses.specs.Course.{Course}
use Rattle.courses.specs.QuerySet.{QuerySet}
use Rattle.session.specs.Feeds.{Finishes}
use Rattle.session.specs.SessionView.{SessionStandsFor, SessionView}
use Rattle.std.proofs.lemmas.Result.{on_ok_weaker}
use Rattle.session.proofs.FeedsLemmas.{finishes}
use Rattle.session.specs.Owes.{stage_at}
use Rattle.session.proofs.SessionLemmas.{engine_stands, events_so_far}
use Rattle.session.specs.RunWork.{FinishesWithin}
use Rattle.session.proofs.StaysWithinLemmas.{finishes_within}
use Rattle.session.proofs.session.Session.finish.Goals as goal

-- the rest of the text was worked on
pub returns-clause-finished : goal.returns-clause-finished
returns-clause-finished g c =
    let before = g.H.Host.told c.args.host.now in
    let after = g.H.Host.told c.work_on_rest.new.host in
    let e = c.self.inside in
    let going = c.self.invariant (ap (λ (s : SessionView). s.ended) c.self.view_is ∙ c.requires) in
    let new : SessionView = record { catalogue = c.work_on_rest.new.catalogue; engine = c.work_on_rest.new.work.engine; limit = e.limit; feed = e.feed; fed = e.fed; ended = true } in
    subst (λ (s : SessionView). (set : QuerySet) (past : Course) (text : List ℕ) → SessionStandsFor s set past text → Finishes new set past text before after c.work_on_rest.result) c.self.view_is
    (λ set past text stands. let heard = engine_stands _ set past text stands in
    let events = events_so_far _ set past text stands in
    finishes _ set past text stands (stage_at e.catalogue e.work events) refl refl going.none_owed before after c.work_on_rest.new.catalogue c.work_on_rest.new.work c.work_on_rest.result
    (c.work_on_rest.ensures.ends events heard) c.work_on_rest.ensures.through
    (on_ok_weaker c.work_on_rest.result (λ each. each events heard) c.work_on_rest.ensures.stands))

-- no more was tested than the epochs ask for that the end closes
pub returns-clause-tests : goal.returns-clause-tests
returns-clause-tests g c =
    subst (λ (s : SessionView). FinishesWithin s c.args.steps.now c.work_on_rest.new.steps) c.self.view_is
    (λ set past text stands.
    finishes_within _ set past text stands c.args.steps.now c.work_on_rest.new.steps
    (c.work_on_rest.ensures.tests (events_so_far _ set past text stands) (engine_stands _ set past text stands)))
