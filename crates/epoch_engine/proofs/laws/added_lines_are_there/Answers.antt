use Rattle.epoch_engine.proofs.AddingLawLemmas.{came}
use Rattle.epoch_engine.proofs.laws.added_lines_are_there.Goals as goal

pub returns : goal.returns
returns c = came
