use Rattle.epoch_engine.proofs.DroppedLemmas.{dropped_stands}
use Rattle.epoch_engine.proofs.laws.dropped_stands.Goals as goal

pub returns : goal.returns
returns c = dropped_stands
