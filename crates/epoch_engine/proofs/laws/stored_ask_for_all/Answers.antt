use Rattle.epoch_engine.proofs.WorkLemmas.{stored_ask_for_all}
use Rattle.epoch_engine.proofs.laws.stored_ask_for_all.Goals as goal

pub returns : goal.returns
returns c = stored_ask_for_all
