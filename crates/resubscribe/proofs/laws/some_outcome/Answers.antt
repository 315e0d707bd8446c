use Rattle.resubscribe.proofs.TotalLemmas as lemma
use Rattle.resubscribe.proofs.laws.some_outcome.Goals as goal

pub returns : goal.returns
returns c = lemma.some_outcome
