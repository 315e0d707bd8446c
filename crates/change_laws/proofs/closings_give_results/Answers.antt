use Rattle.change_laws.proofs.ResultLemmas as lemma
use Rattle.change_laws.proofs.closings_give_results.Goals as goal

pub returns : goal.returns
returns c = lemma.closings_give_results
