use Rattle.prefix_merge.proofs.LawLemmas.{come_in_turn}
use Rattle.prefix_merge.proofs.laws.lines_come_in_turn.Goals as goal

pub returns : goal.returns
returns c = come_in_turn
