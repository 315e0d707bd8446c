use Rattle.session.proofs.ResultLemmas as lemma
use Rattle.session.proofs.laws.closing_gives_results_of_catalogue.Goals as goal

pub returns : goal.returns
returns c = lemma.closing_gives_results_of_catalogue
