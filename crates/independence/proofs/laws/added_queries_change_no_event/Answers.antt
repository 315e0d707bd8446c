use Rattle.independence.proofs.EnlargedLemmas.{lines_are_read_alike}
use Rattle.independence.proofs.laws.added_queries_change_no_event.Goals as goal

pub returns : goal.returns
returns c = lines_are_read_alike
