use Rattle.epoch_engine.proofs.StandsLemmas.{closed_stands}
use Rattle.epoch_engine.proofs.laws.closed_stands.Goals as goal

pub returns : goal.returns
returns c old new lines history batch stands closes plan = closed_stands old new lines history batch stands closes plan
