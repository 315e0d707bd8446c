use Rattle.splitter.proofs.LawLemmas.{added_mean_it}
use Rattle.splitter.proofs.laws.added_lines_mean_their_expression.Goals as goal

pub returns : goal.returns
returns c = added_mean_it
