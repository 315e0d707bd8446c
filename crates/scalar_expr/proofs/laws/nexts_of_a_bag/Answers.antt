use Rattle.scalar_expr.proofs.NextsLemmas as lemma
use Rattle.scalar_expr.proofs.laws.nexts_of_a_bag.Goals as goal

pub returns : goal.returns
returns c = lemma.nexts_permuted
