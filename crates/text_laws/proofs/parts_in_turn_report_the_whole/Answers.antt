use Rattle.text_laws.proofs.QueryPartLemmas.{in_turn}
use Rattle.text_laws.proofs.parts_in_turn_report_the_whole.Goals as goal

pub returns : goal.returns
returns c = in_turn
