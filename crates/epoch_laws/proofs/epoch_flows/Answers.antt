use Rattle.epoch_laws.proofs.Standing.{epoch_flows}
use Rattle.epoch_laws.proofs.epoch_flows.Goals as goal

pub returns : goal.returns
returns c = epoch_flows
