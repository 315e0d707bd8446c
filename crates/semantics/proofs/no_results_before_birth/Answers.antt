use Rattle.semantics.proofs.StatementLemmas.{no_results}
use Rattle.semantics.proofs.no_results_before_birth.Goals as goal

pub returns : goal.returns
returns c = no_results
