use Rattle.text_laws.proofs.SplitLemmas.{order_changes_nothing}
use Rattle.text_laws.proofs.line_order_within_epochs_changes_no_report.Goals as goal

pub returns : goal.returns
returns c = order_changes_nothing
