use Rattle.epoch_engine.proofs.AddingLawLemmas.{their_own}
use Rattle.epoch_engine.proofs.laws.born_lines_are_its_own.Goals as goal

pub returns : goal.returns
returns c = their_own
