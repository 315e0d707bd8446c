use Rattle.scalar_expr.proofs.CanonicalLaws as lemma
use Rattle.scalar_expr.proofs.laws.canonical_form_keeps_truth.Goals as goal

pub returns : goal.returns
returns c = lemma.canonical_keeps_truth
