use Rattle.epoch_laws.proofs.InstanceEpochs as lemma
use Rattle.epoch_laws.proofs.state_keeps.Goals as goal

pub returns : goal.returns
returns c = lemma.state_keeps
