use Rattle.epoch_engine.proofs.BornLemmas.{unborn_are_counted}
use Rattle.epoch_engine.proofs.laws.unborn_are_counted.Goals as goal

pub returns : goal.returns
returns c = unborn_are_counted
