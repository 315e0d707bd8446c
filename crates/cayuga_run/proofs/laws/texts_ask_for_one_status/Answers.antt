use Rattle.cayuga_run.proofs.JudgementLemmas.{one_status}
use Rattle.cayuga_run.proofs.laws.texts_ask_for_one_status.Goals as goal

pub returns : goal.returns
returns c = one_status
