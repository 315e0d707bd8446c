use Rattle.scalar_expr.proofs.OneForm as lemma
use Rattle.scalar_expr.proofs.laws.same_parts_have_one_form.Goals as goal

pub returns : goal.returns
returns c = lemma.same_form
