use Rattle.change_laws.proofs.StartLemmas as lemma
use Rattle.change_laws.proofs.new_are_at_one.Goals as goal

pub returns : goal.returns
returns c = lemma.new_are_at_one
