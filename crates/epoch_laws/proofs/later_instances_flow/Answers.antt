use Rattle.epoch_laws.proofs.InstanceFlows as lemma
use Rattle.epoch_laws.proofs.later_instances_flow.Goals as goal

pub returns : goal.returns
returns c streams birth prefix sound = lemma.later_flow streams sound birth prefix
