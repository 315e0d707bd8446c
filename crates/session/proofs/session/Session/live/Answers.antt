use Rattle.std.proofs.Common.{ℕ, List, refl, subst}
use Rattle.semantics.specs.Histories.{Event}
use Rattle.courses.specs.Course.{Course}
use Rattle.courses.specs.QuerySet.{QuerySet}
use Rattle.splitter.specs.Chains.{work_order}
use Rattle.epoch_laws.specs.Standing.{closed_part}
use Rattle.epoch_engine.specs.Counts.{CountsAlive}
use Rattle.epoch_engine.specs.Trims.{Trims}
use Rattle.epoch_engine.specs.EngineView as engine
use Rattle.session.specs.SessionView.{SessionStandsFor, TrimsEngine, SessionView, WorksFor, program_in}
use Rattle.session.proofs.CountingLemmas.{alive_counted, stands_still, works_still}
use Rattle.session.proofs.session.Session.live.Goals as goal
use Rattle.birth_laws.specs.BornChains.{born_lines}

-- the session with another engine
abbrev with_engine : SessionView → engine.EngineView → SessionView
with_engine session now = record session { engine = now }

trims_engine : (session : SessionView) (now : engine.EngineView) → Trims session.engine now → TrimsEngine session (with_engine session now)
trims_engine session now trims = record { engine = trims; catalogue = refl; limit = refl; feed = refl; fed = refl; ended = refl }

-- what is stored behind the purge is counted
pub returns-clause-counted : goal.returns-clause-counted
returns-clause-counted c =
    let e = c.self.inside in
    let old : SessionView = record { catalogue = e.catalogue; engine = e.work.engine; limit = e.limit; feed = e.feed; fed = e.fed; ended = e.ended } in
    let now = c.trim.new.self in
    subst (λ (s : SessionView). (history : List Event) → WorksFor s history → CountsAlive (born_lines (program_in s)) (work_order (program_in s)) (closed_part s.engine.time history) c.live.result) c.self.view_is
    (λ history works. alive_counted old (with_engine old now) (trims_engine old now c.trim.ensures) history works c.live.result c.live.ensures)

-- the engine works for the same events
pub returns-clause-works : goal.returns-clause-works
returns-clause-works c =
    let e = c.self.inside in
    let old : SessionView = record { catalogue = e.catalogue; engine = e.work.engine; limit = e.limit; feed = e.feed; fed = e.fed; ended = e.ended } in
    let now = c.trim.new.self in
    subst (λ (s : SessionView). (history : List Event) → WorksFor s history → WorksFor (with_engine old now) history) c.self.view_is
    (λ history works. works_still old (with_engine old now) (trims_engine old now c.trim.ensures) history works)

-- the session stands for the same text
pub returns-clause-stands : goal.returns-clause-stands
returns-clause-stands c =
    let e = c.self.inside in
    let old : SessionView = record { catalogue = e.catalogue; engine = e.work.engine; limit = e.limit; feed = e.feed; fed = e.fed; ended = e.ended } in
    let now = c.trim.new.self in
    subst (λ (s : SessionView). (set : QuerySet) (past : Course) (text : List ℕ) → SessionStandsFor s set past text → SessionStandsFor (with_engine old now) set past text) c.self.view_is
    (λ set past text stands. stands_still old (with_engine old now) (trims_engine old now c.trim.ensures) set past text stands)
