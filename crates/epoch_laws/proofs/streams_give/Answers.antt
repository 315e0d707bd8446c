use Rattle.epoch_laws.proofs.Streams as lemma
use Rattle.epoch_laws.proofs.streams_give.Goals as goal

pub returns : goal.returns
returns c = lemma.streams_give
