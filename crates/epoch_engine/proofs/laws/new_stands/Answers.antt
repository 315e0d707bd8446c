use Rattle.epoch_engine.proofs.StandsLemmas.{new_stands}
use Rattle.epoch_engine.proofs.laws.new_stands.Goals as goal

pub returns : goal.returns
returns c net layout lines engine serves unborn new = new_stands net layout lines engine serves unborn new
