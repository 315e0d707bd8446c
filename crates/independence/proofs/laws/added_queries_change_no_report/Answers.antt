use Rattle.independence.proofs.LawLemmas.{reports_stay}
use Rattle.independence.proofs.laws.added_queries_change_no_report.Goals as goal

pub returns : goal.returns
returns c = reports_stay
