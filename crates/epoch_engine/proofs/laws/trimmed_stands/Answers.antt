use Rattle.epoch_engine.proofs.TrimLemmas.{trimmed_stands}
use Rattle.epoch_engine.proofs.laws.trimmed_stands.Goals as goal

pub returns : goal.returns
returns c = trimmed_stands
