use Rattle.epoch_engine.proofs.WorkLemmas.{fewer_ask_for_less}
use Rattle.epoch_engine.proofs.laws.fewer_ask_for_less.Goals as goal

pub returns : goal.returns
returns c = fewer_ask_for_less
