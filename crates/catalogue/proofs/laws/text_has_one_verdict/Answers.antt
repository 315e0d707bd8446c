use Rattle.catalogue.proofs.VerdictLemmas.{one_verdict}
use Rattle.catalogue.proofs.laws.text_has_one_verdict.Goals as goal

pub returns : goal.returns
returns c = one_verdict
