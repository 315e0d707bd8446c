use Rattle.epoch_engine.proofs.StoredLemmas.{stored_are_there}
use Rattle.epoch_engine.proofs.laws.stored_are_there.Goals as goal

pub returns : goal.returns
returns c = stored_are_there
