use Rattle.std.proofs.Common.{[], ap, is_some, sym, subst, refl}
use Rattle.catalogue.specs.Coming.{IsLatest}
use Rattle.catalogue.proofs.NewcomerLemmas.{none_is_latest}
use Rattle.courses.specs.QuerySet.{set_in}
use Rattle.session.proofs.session.Session.make.Goals as goal

-- no query was born later than a new engine closed an epoch
pub over-requires-clause-born : goal.over-requires-clause-born
over-requires-clause-born c = subst (λ time. IsLatest time c.args.catalogue) (sym c.in_ok-engine.ensures.none_closed) (none_is_latest c.args.catalogue c.requires)

-- the session stands for nothing
pub returns-clause-stands : goal.returns-clause-stands
returns-clause-stands c = c.over.ensures.stands (set_in c.args.catalogue) [] tt refl c.in_ok-engine.ensures.stands (ap is_some c.in_ok-engine.ensures.none_open)
