use Rattle.source_merge.proofs.TurnLemmas.{turns_are_the_earliest}
use Rattle.source_merge.proofs.laws.turns_are_those_of_the_earliest_files.Goals as goal

pub returns : goal.returns
returns c = turns_are_the_earliest
