use Rattle.text_laws.proofs.SplitLemmas.{restart_stands}
use Rattle.text_laws.proofs.restart_reports_the_same.Goals as goal

pub returns : goal.returns
returns c = restart_stands
