use Rattle.epoch_laws.proofs.InstanceFlows as lemma
use Rattle.epoch_laws.proofs.born_lines_read_later.Goals as goal

pub returns : goal.returns
returns c lines streams stream sound = lemma.born_lines streams sound lines stream
