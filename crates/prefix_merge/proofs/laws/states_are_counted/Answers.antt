use Rattle.prefix_merge.proofs.CountLemmas.{states_are_counted}
use Rattle.prefix_merge.proofs.laws.states_are_counted.Goals as goal

pub returns : goal.returns
returns c = states_are_counted
