use Rattle.automaton.proofs.AdditionLemmas.{added_alone}
use Rattle.automaton.proofs.laws.added_lines_stand_alone.Goals as goal

pub returns : goal.returns
returns c = added_alone
