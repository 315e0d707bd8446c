use Rattle.source_merge.proofs.GrowingLemmas.{end_in_one_way}
use Rattle.source_merge.proofs.laws.turns_end_in_one_way.Goals as goal

pub returns : goal.returns
returns c = end_in_one_way
