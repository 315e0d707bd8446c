use Rattle.courses.proofs.ClosedLemmas.{reports_grow}
use Rattle.courses.proofs.laws.reports_grow.Goals as goal

pub returns : goal.returns
returns c = reports_grow
