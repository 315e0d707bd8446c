use Rattle.epoch_engine.proofs.WorkLemmas.{waiting_ask_for_all}
use Rattle.epoch_engine.proofs.laws.waiting_ask_for_all.Goals as goal

pub returns : goal.returns
returns c = waiting_ask_for_all
