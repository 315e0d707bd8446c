use Rattle.semantics.proofs.ReportLemmas as lemma
use Rattle.semantics.proofs.report_grows.Goals as goal

pub returns : goal.returns
returns c = lemma.report_grows
