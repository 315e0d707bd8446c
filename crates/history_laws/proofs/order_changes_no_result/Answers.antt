use Rattle.history_laws.proofs.EpochLemmas.{results_permuted}
use Rattle.history_laws.proofs.order_changes_no_result.Goals as goal

pub returns : goal.returns
returns c = results_permuted
