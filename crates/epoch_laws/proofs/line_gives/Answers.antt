use Rattle.epoch_laws.proofs.InstanceEpochs as lemma
use Rattle.epoch_laws.proofs.line_gives.Goals as goal

pub returns : goal.returns
returns c = lemma.line_gives
