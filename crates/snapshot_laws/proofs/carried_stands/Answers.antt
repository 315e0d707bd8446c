use Rattle.snapshot_laws.proofs.FillingLemmas.{carried_stands}
use Rattle.snapshot_laws.proofs.carried_stands.Goals as goal

pub returns : goal.returns
returns c = carried_stands
