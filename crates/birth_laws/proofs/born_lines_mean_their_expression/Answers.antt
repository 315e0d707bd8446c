use Rattle.birth_laws.proofs.OneBirthLemmas.{born_means}
use Rattle.birth_laws.proofs.born_lines_mean_their_expression.Goals as goal

pub returns : goal.returns
returns c = born_means
