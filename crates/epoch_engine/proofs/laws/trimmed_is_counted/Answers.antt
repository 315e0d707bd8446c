use Rattle.epoch_engine.proofs.TrimLemmas.{trimmed_is_counted}
use Rattle.epoch_engine.proofs.laws.trimmed_is_counted.Goals as goal

pub returns : goal.returns
returns c = trimmed_is_counted
