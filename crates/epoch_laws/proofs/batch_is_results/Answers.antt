use Rattle.epoch_laws.proofs.Batches as lemma
use Rattle.epoch_laws.proofs.batch_is_results.Goals as goal

pub returns : goal.returns
returns c = lemma.batch_is_results
