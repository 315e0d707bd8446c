use Rattle.epoch_engine.proofs.AddingLawLemmas.{stayed}
use Rattle.epoch_engine.proofs.laws.other_lines_stay.Goals as goal

pub returns : goal.returns
returns c = stayed
