use Rattle.semantics.proofs.StatementLemmas.{declared_is, published_is}
use Rattle.semantics.proofs.streams_are_denoted.Goals as goal

pub returns : goal.returns
returns c kinds program history typed = (declared_is kinds program history typed, published_is kinds program history typed)
