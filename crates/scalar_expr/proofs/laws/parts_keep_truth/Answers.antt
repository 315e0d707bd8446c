use Rattle.scalar_expr.proofs.CanonicalLaws as lemma
use Rattle.scalar_expr.proofs.laws.parts_keep_truth.Goals as goal

pub returns : goal.returns
returns c = lemma.parts_keep_truth
