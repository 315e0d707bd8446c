use Rattle.change_laws.proofs.ComeLemmas as lemma
use Rattle.change_laws.proofs.coming_stands.Goals as goal

pub returns : goal.returns
returns c = lemma.coming_stands
