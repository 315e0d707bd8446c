use Rattle.epoch_engine.proofs.StandsLemmas.{offered_stands}
use Rattle.epoch_engine.proofs.laws.offered_stands.Goals as goal

pub returns : goal.returns
returns c engine lines history stream tuple stands heard sound ahead late = offered_stands engine lines history stream tuple stands heard sound ahead late
