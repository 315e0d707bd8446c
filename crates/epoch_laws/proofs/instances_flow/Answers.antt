use Rattle.epoch_laws.proofs.InstanceFlows as lemma
use Rattle.epoch_laws.proofs.instances_flow.Goals as goal

pub returns : goal.returns
returns c = lemma.instances_flow
