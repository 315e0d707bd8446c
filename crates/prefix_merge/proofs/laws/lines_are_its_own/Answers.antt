use Rattle.prefix_merge.proofs.LawLemmas.{own_lines}
use Rattle.prefix_merge.proofs.laws.lines_are_its_own.Goals as goal

pub returns : goal.returns
returns c = own_lines
