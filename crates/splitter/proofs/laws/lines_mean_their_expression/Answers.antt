use Rattle.splitter.proofs.LawLemmas.{lines_mean_it}
use Rattle.splitter.proofs.laws.lines_mean_their_expression.Goals as goal

pub returns : goal.returns
returns c = lines_mean_it
