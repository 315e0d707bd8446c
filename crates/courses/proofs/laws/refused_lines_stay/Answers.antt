use Rattle.courses.proofs.ClosedLemmas.{refused_stays}
use Rattle.courses.proofs.laws.refused_lines_stay.Goals as goal

pub returns : goal.returns
returns c = refused_stays
