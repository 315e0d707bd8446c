use Rattle.epoch_laws.proofs.Standing as lemma
use Rattle.epoch_laws.proofs.start_stands.Goals as goal

pub returns : goal.returns
returns c = lemma.start_stands
