use Rattle.epoch_laws.proofs.InstanceEpochs as lemma
use Rattle.epoch_laws.proofs.instances_wait.Goals as goal

pub returns : goal.returns
returns c = lemma.instances_wait
