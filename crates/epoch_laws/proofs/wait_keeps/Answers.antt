use Rattle.epoch_laws.proofs.Waits as lemma
use Rattle.epoch_laws.proofs.wait_keeps.Goals as goal

pub returns : goal.returns
returns c = lemma.wait_keeps
