use Rattle.epoch_laws.proofs.Purges as lemma
use Rattle.epoch_laws.proofs.dead_later.Goals as goal

pub returns : goal.returns
returns c = lemma.dead_on
