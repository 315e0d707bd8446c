use Rattle.snapshot_laws.proofs.FillingLemmas.{filled_stands}
use Rattle.snapshot_laws.proofs.filled_stands.Goals as goal

pub returns : goal.returns
returns c = filled_stands
