use Rattle.automaton.proofs.AdditionLemmas.{added_in_order}
use Rattle.automaton.proofs.laws.added_lines_stay_in_order.Goals as goal

pub returns : goal.returns
returns c = added_in_order
