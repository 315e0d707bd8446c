use Rattle.source_merge.proofs.GrowingLemmas.{come_first, turns_stay}
use Rattle.source_merge.proofs.laws.turns_stay_as_files_go_on.Goals as goal

pub returns : goal.returns
returns c = record { first = come_first; stay = turns_stay }
