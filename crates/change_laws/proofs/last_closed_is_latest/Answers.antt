use Rattle.change_laws.proofs.StartLemmas as lemma
use Rattle.change_laws.proofs.last_closed_is_latest.Goals as goal

pub returns : goal.returns
returns c = lemma.last_closed_is_latest
