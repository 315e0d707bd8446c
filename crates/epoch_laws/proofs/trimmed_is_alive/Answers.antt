use Rattle.epoch_laws.proofs.Standing as lemma
use Rattle.epoch_laws.proofs.trimmed_is_alive.Goals as goal

pub returns : goal.returns
returns c = lemma.trimmed_is_alive
