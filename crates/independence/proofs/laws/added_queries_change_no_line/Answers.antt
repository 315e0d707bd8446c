use Rattle.independence.proofs.EnlargedLemmas.{lines_stay}
use Rattle.independence.proofs.laws.added_queries_change_no_line.Goals as goal

pub returns : goal.returns
returns c = lines_stay
