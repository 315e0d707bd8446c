use Rattle.epoch_laws.proofs.Standing.{upto_last}
use Rattle.epoch_laws.proofs.open_is_last.Goals as goal

pub returns : goal.returns
returns c net lines order stores time tuples closed_time history stands = upto_last history time stands.never_falls stands.open_is_last
