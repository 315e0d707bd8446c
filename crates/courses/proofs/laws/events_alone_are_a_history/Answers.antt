use Rattle.courses.proofs.ReportLemmas.{alone}
use Rattle.courses.proofs.laws.events_alone_are_a_history.Goals as goal

pub returns : goal.returns
returns c = alone
