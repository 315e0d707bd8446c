use Rattle.catalogue.proofs.HoldingLemmas.{loaded_are_accepted}
use Rattle.catalogue.proofs.laws.loaded_texts_are_accepted.Goals as goal

pub returns : goal.returns
returns c = loaded_are_accepted
