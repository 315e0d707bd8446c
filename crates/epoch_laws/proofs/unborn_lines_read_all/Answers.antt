use Rattle.epoch_laws.proofs.InstanceFlows as lemma
use Rattle.epoch_laws.proofs.unborn_lines_read_all.Goals as goal

pub returns : goal.returns
returns c = lemma.unborn_lines
