use Rattle.epoch_laws.proofs.Standing as lemma
use Rattle.epoch_laws.proofs.closing_is_results.Goals as goal

pub returns : goal.returns
returns c net lines order stores time tuples news closed_time history program stream serves stands epoch agree =
    lemma.closing_is_results net lines order stores time tuples news closed_time history serves stands epoch program stream agree
