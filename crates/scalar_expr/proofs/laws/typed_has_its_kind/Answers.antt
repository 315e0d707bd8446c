use Rattle.scalar_expr.proofs.KindLemmas as lemma
use Rattle.scalar_expr.proofs.laws.typed_has_its_kind.Goals as goal

pub returns : goal.returns
returns c = lemma.typed_has_its_kind
