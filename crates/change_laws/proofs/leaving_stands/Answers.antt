use Rattle.change_laws.proofs.LeaveLemmas as lemma
use Rattle.change_laws.proofs.leaving_stands.Goals as goal

pub returns : goal.returns
returns c = lemma.leaving_stands
