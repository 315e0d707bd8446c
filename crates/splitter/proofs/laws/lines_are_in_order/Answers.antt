use Rattle.splitter.proofs.LawLemmas.{in_order}
use Rattle.splitter.proofs.laws.lines_are_in_order.Goals as goal

pub returns : goal.returns
returns c = in_order
