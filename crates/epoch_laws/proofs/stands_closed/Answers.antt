use Rattle.epoch_laws.proofs.StoresStandFor as lemma
use Rattle.epoch_laws.proofs.stands_closed.Goals as goal

pub returns : goal.returns
returns c = lemma.stands_closed
