use Rattle.epoch_engine.proofs.StandsLemmas.{batch_is_streams}
use Rattle.epoch_engine.proofs.laws.batch_is_streams.Goals as goal

pub returns : goal.returns
returns c old new lines history batch stands closes = batch_is_streams old new lines history batch stands closes
