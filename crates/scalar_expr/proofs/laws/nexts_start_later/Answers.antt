use Rattle.scalar_expr.proofs.NextsLemmas as lemma
use Rattle.scalar_expr.proofs.laws.nexts_start_later.Goals as goal

pub returns : goal.returns
returns c = lemma.nexts_start_later
