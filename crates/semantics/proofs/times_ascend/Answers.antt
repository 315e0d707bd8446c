use Rattle.semantics.proofs.ReportLemmas as lemma
use Rattle.semantics.proofs.times_ascend.Goals as goal

pub returns : goal.returns
returns c = lemma.times_ascend
