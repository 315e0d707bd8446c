use Rattle.epoch_laws.proofs.Purges as lemma
use Rattle.epoch_laws.proofs.dead_stay_dead.Goals as goal

pub returns : goal.returns
returns c = lemma.dead_stay_dead
