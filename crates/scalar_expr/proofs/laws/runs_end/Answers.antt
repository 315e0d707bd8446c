use Rattle.scalar_expr.proofs.RunsLemmas as lemma
use Rattle.scalar_expr.proofs.laws.runs_end.Goals as goal

pub returns : goal.returns
returns c = lemma.runs_end
