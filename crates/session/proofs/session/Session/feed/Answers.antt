use Rattle.std.proofs.Common.{◌≡◌, ◌∙◌, ◌+◌, false, ℕ, List, ap, sym, refl, subst, length, arith}
use Rattle.std.proofs.lemmas.Result.{err_from_is_err_and}
use Rattle.courses.specs.Course.{Course}
use Rattle.courses.specs.QuerySet.{QuerySet}
use Rattle.session.specs.declared.fault.SessionFault.TheVariants as fault
use Rattle.session.specs.Feeds.{Feeds, StopsAtPiece}
use Rattle.session.specs.SessionView.{SessionStandsFor, SessionView}
use Rattle.session.proofs.FeedsLemmas.{all_within, feeds, fits_within, of_ok, stops_at_piece, too_much}
use Rattle.session.proofs.WroteFrontLemmas.{front_none}
use Rattle.session.specs.Owes.{stage_at}
use Rattle.session.proofs.SessionLemmas.{engine_stands, events_so_far}
use Rattle.session.specs.RunWork.{FeedsWithin}
use Rattle.session.proofs.StaysWithinLemmas.{feeds_within}
use Rattle.session.proofs.session.Session.feed.Goals as goal

-- there was no memory for the bytes
pub returns-then-is_err-clause-broken : goal.returns-then-is_err-clause-broken
returns-then-is_err-clause-broken g c =
    let before = g.H.Host.told c.args.host.now in
    let going = c.self.invariant (ap (λ (s : SessionView). s.ended) c.self.view_is ∙ c.requires) in
    subst (λ (s : SessionView). (set : QuerySet) (past : Course) (text : List ℕ) → SessionStandsFor s set past text → StopsAtPiece s set past text c.args.piece.now before before fault.Memory) c.self.view_is
    (λ set past text stands. stops_at_piece _ set past text stands (stage_at c.self.inside.catalogue c.self.inside.work _) refl refl going.none_owed before before c.args.piece.now c.front_of-within.result.now c.front_of-within.ensures fault.Memory (front_none _ before))

-- the work on the lines stopped
pub returns-in_err-work_on_lines-clause-broken : goal.returns-in_err-work_on_lines-clause-broken
returns-in_err-work_on_lines-clause-broken g c =
    let p = err_from_is_err_and c.from_residual.result c.from_residual.ensures.1 in
    let before = g.H.Host.told c.args.host.now in
    let after = g.H.Host.told c.work_on_lines.new.host in
    let going = c.self.invariant (ap (λ (s : SessionView). s.ended) c.self.view_is ∙ c.requires) in
    let stop = c.in_err-work_on_lines.field-0.0 in
    let pushed = of_ok c.push.result (sym c.is_err.ensures.value ∙ c.if-is_err.false) c.push.ensures.ok in
    rw (p.1, p.2) (subst (λ (s : SessionView). (set : QuerySet) (past : Course) (text : List ℕ) → SessionStandsFor s set past text → StopsAtPiece s set past text c.args.piece.now before after stop) c.self.view_is
    (λ set past text stands. stops_at_piece _ set past text stands (stage_at c.self.inside.catalogue c.self.inside.work _) refl refl going.none_owed before after c.args.piece.now c.front_of-within.result.now c.front_of-within.ensures stop
    (rw pushed at c.in_err-work_on_lines.ensures.ends (events_so_far _ set past text stands) (engine_stands _ set past text stands))))

-- more bytes came
pub returns-then-within-piece-clause-broken : goal.returns-then-within-piece-clause-broken
returns-then-within-piece-clause-broken g c =
    let before = g.H.Host.told c.args.host.now in
    let after = g.H.Host.told c.work_on_lines.new.host in
    let going = c.self.invariant (ap (λ (s : SessionView). s.ended) c.self.view_is ∙ c.requires) in
    let pushed = of_ok c.push.result (sym c.is_err.ensures.value ∙ c.if-is_err.false) c.push.ensures.ok in
    subst (λ (s : SessionView). (set : QuerySet) (past : Course) (text : List ℕ) → SessionStandsFor s set past text → StopsAtPiece s set past text c.args.piece.now before after (fault.TooMuch c.self.inside.limit)) c.self.view_is
    (λ set past text stands. too_much _ set past text stands (stage_at c.self.inside.catalogue c.self.inside.work _) refl refl going.none_owed before after c.args.piece.now c.front_of-within.result.now c.front_of-within.ensures c.if-within-piece.true
    (rw pushed at c.in_ok-work_on_lines.ensures.ends (events_so_far _ set past text stands) (engine_stands _ set past text stands)))

-- the session goes on
pub returns-clause-fed : goal.returns-clause-fed
returns-clause-fed g c =
    let before = g.H.Host.told c.args.host.now in
    let after = g.H.Host.told c.work_on_lines.new.host in
    let going = c.self.invariant (ap (λ (s : SessionView). s.ended) c.self.view_is ∙ c.requires) in
    let pushed = of_ok c.push.result (sym c.is_err.ensures.value ∙ c.if-is_err.false) c.push.ensures.ok in
    let within = c.front_of-within.result.now in
    let new : SessionView = record { catalogue = c.work_on_lines.new.catalogue; engine = c.work_on_lines.new.work.engine; limit = c.self.inside.limit; feed = c.work_on_lines.new.feed; fed = c.self.inside.fed + length within; ended = false } in
    let whole : within ≡ c.args.piece.now = all_within c.self.inside.limit c.self.inside.fed c.args.piece.now within c.front_of-within.ensures c.if-within-piece.false in
    subst (λ (s : SessionView). (set : QuerySet) (past : Course) (text : List ℕ) → SessionStandsFor s set past text → Feeds new set past text c.args.piece.now before after) c.self.view_is
    (λ set past text stands. let heard = engine_stands _ set past text stands in
    let events = events_so_far _ set past text stands in
    subst (λ (p : List ℕ). Feeds new set past text p before after) whole
    (feeds _ set past text stands (stage_at c.self.inside.catalogue c.self.inside.work events) refl refl going.none_owed before after c.work_on_lines.new.catalogue within
    (fits_within _ set past text stands c.args.piece.now within c.front_of-within.ensures)
    c.work_on_lines.new.work c.work_on_lines.new.feed (rw pushed at c.in_ok-work_on_lines.ensures.gone) c.in_ok-work_on_lines.ensures.part c.in_ok-work_on_lines.ensures.at_work
    (rw pushed at c.in_ok-work_on_lines.ensures.ends events heard)
    (rw pushed at c.in_ok-work_on_lines.ensures.stands events heard)))

-- no more was tested than the epochs ask for that the bytes close
pub returns-then-is_err-clause-tests : goal.returns-then-is_err-clause-tests
returns-then-is_err-clause-tests g c =
    subst (λ (s : SessionView). FeedsWithin s c.args.piece.now c.args.steps.now c.args.steps.now) c.self.view_is
    (λ set past text stands.
    feeds_within _ set past text stands c.args.steps.now c.args.steps.now c.args.piece.now c.front_of-within.result.now c.front_of-within.ensures
    (omega arith))

pub returns-in_err-work_on_lines-clause-tests : goal.returns-in_err-work_on_lines-clause-tests
returns-in_err-work_on_lines-clause-tests g c =
    let pushed = of_ok c.push.result (sym c.is_err.ensures.value ∙ c.if-is_err.false) c.push.ensures.ok in
    subst (λ (s : SessionView). FeedsWithin s c.args.piece.now c.args.steps.now c.work_on_lines.new.steps) c.self.view_is
    (λ set past text stands.
    feeds_within _ set past text stands c.args.steps.now c.work_on_lines.new.steps c.args.piece.now c.front_of-within.result.now c.front_of-within.ensures
    (rw pushed at c.work_on_lines.ensures.tests (events_so_far _ set past text stands) (engine_stands _ set past text stands)))

pub returns-then-within-piece-clause-tests : goal.returns-then-within-piece-clause-tests
returns-then-within-piece-clause-tests g c =
    let pushed = of_ok c.push.result (sym c.is_err.ensures.value ∙ c.if-is_err.false) c.push.ensures.ok in
    subst (λ (s : SessionView). FeedsWithin s c.args.piece.now c.args.steps.now c.work_on_lines.new.steps) c.self.view_is
    (λ set past text stands.
    feeds_within _ set past text stands c.args.steps.now c.work_on_lines.new.steps c.args.piece.now c.front_of-within.result.now c.front_of-within.ensures
    (rw pushed at c.work_on_lines.ensures.tests (events_so_far _ set past text stands) (engine_stands _ set past text stands)))

pub returns-clause-tests : goal.returns-clause-tests
returns-clause-tests g c =
    let pushed = of_ok c.push.result (sym c.is_err.ensures.value ∙ c.if-is_err.false) c.push.ensures.ok in
    subst (λ (s : SessionView). FeedsWithin s c.args.piece.now c.args.steps.now c.work_on_lines.new.steps) c.self.view_is
    (λ set past text stands.
    feeds_within _ set past text stands c.args.steps.now c.work_on_lines.new.steps c.args.piece.now c.front_of-within.result.now c.front_of-within.ensures
    (rw pushed at c.work_on_lines.ensures.tests (events_so_far _ set past text stands) (engine_stands _ set past text stands)))
