use Rattle.epoch_laws.proofs.Standing as lemma
use Rattle.epoch_laws.proofs.purge_stands.Goals as goal

pub returns : goal.returns
returns c = lemma.purge_stands
