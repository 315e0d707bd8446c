use Rattle.catalogue.proofs.TotalVerdicts as lemma
use Rattle.catalogue.proofs.laws.text_has_some_verdict.Goals as goal

pub returns : goal.returns
returns c = lemma.some_verdict
