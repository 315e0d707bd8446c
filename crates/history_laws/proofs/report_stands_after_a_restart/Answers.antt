use Rattle.history_laws.proofs.RestartLemmas.{report_stands}
use Rattle.history_laws.proofs.report_stands_after_a_restart.Goals as goal

pub returns : goal.returns
returns c = report_stands
