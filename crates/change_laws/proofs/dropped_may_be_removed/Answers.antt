use Rattle.change_laws.proofs.LeaveLemmas as lemma
use Rattle.change_laws.proofs.dropped_may_be_removed.Goals as goal

pub returns : goal.returns
returns c = lemma.dropped_may_be_removed
