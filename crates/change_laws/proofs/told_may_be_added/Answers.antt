use Rattle.change_laws.proofs.ComeLemmas as lemma
use Rattle.change_laws.proofs.told_may_be_added.Goals as goal

pub returns : goal.returns
returns c = lemma.told_may_be_added
