use Rattle.history_laws.proofs.EpochLemmas.{report_permuted}
use Rattle.history_laws.proofs.order_within_epochs_changes_no_report.Goals as goal

pub returns : goal.returns
returns c = report_permuted
