use Rattle.semantics.proofs.StatementLemmas.{same_results}
use Rattle.semantics.proofs.same_statements_give_same_results.Goals as goal

pub returns : goal.returns
returns c = same_results
