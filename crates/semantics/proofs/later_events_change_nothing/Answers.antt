use Rattle.semantics.proofs.ReportLemmas as lemma
use Rattle.semantics.proofs.later_events_change_nothing.Goals as goal

pub returns : goal.returns
returns c = lemma.results_stand
