use Rattle.epoch_engine.proofs.EngineLemmas.{opened_streams}
use Rattle.epoch_engine.proofs.epoch.Epoch.close.Goals as goal

pub clear-requires-clause-numbers : goal.clear-requires-clause-numbers
clear-requires-clause-numbers c = (opened_streams c.args.self.now.tuples c.args.self.now.touched c.as_slice.result.now c.requires c.as_slice.ensures).below
