use Rattle.epoch_laws.proofs.StoresStandFor as lemma
use Rattle.epoch_laws.proofs.stands_purged.Goals as goal

pub returns : goal.returns
returns c = lemma.stands_purged
