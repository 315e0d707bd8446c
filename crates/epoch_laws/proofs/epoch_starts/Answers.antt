use Rattle.epoch_laws.proofs.Grows as lemma
use Rattle.epoch_laws.proofs.epoch_starts.Goals as goal

pub returns : goal.returns
returns c = lemma.epoch_starts
