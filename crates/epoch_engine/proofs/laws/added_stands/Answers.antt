use Rattle.epoch_engine.proofs.AddedLemmas.{added_stands}
use Rattle.epoch_engine.proofs.laws.added_stands.Goals as goal

pub returns : goal.returns
returns c = added_stands
