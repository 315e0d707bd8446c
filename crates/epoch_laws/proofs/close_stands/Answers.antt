use Rattle.epoch_laws.proofs.Standing as lemma
use Rattle.epoch_laws.proofs.close_stands.Goals as goal

pub returns : goal.returns
returns c net lines order stores kept time tuples news closed_time history serves stands epoch purged =
    lemma.close_stands net lines order stores time tuples news closed_time history serves stands epoch kept purged
