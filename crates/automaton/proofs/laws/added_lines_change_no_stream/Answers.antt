use Rattle.automaton.proofs.AdditionLemmas.{added_same}
use Rattle.automaton.proofs.laws.added_lines_change_no_stream.Goals as goal

pub returns : goal.returns
returns c = added_same
