use Rattle.std.proofs.Common.{◌<◌, ◌≤◌, ℕ, List, length, sym, subst, refl, arith}
use Rattle.catalogue.specs.Coming.{IsLatest}
use Rattle.event_csv.specs.Fed.{Fed, IsPart, line_feeds_so_far}
use Rattle.session.specs.Fronts.{AreFronts}
use Rattle.session.proofs.BeginningLemmas.{past_declared}
use Rattle.session.proofs.FrontLemmas.{no_fronts}
use Rattle.session.proofs.PlanLemmas.{laid_over}
use Rattle.session.proofs.SessionLemmas.{begins, unfed_part}
use Rattle.session.proofs.session.Session.over.Goals as goal

-- the session may go on
pub invariant_of-result : goal.invariant_of-result
invariant_of-result c = λ going. record {
  at_work = record { in_order = c.queries-queries.ensures.stands; at_one = c.requires.at_one; born = subst (λ time. IsLatest time c.args.catalogue) (sym c.last_closed-born.ensures) c.requires.born; fronts = subst (AreFronts c.args.catalogue.streams) (sym c.new-3.ensures) (no_fronts c.args.catalogue.streams); few = subst (λ (bytes : List ℕ). length bytes < 65536) (sym c.new.ensures) (omega arith) };
  none_owed = c.new.ensures;
  within = omega arith;
  counted = subst (λ (feed : Fed). line_feeds_so_far feed ≤ 0) (sym c.new-4.ensures) (omega arith);
  part = subst IsPart (sym c.new-4.ensures) unfed_part;
}

-- it stands for what its engine stands for
pub returns-clause-stands : goal.returns-clause-stands
returns-clause-stands c = λ set past sound holds stands opened.
    let standing = c.queries-queries.ensures.stands in
    begins _ set past refl refl c.new-4.ensures sound holds (past_declared c.args.catalogue set past standing sound holds) c.requires.at_one (laid_over c.args.catalogue c.args.engine standing c.requires.at_one) stands opened
