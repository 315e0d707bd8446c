use Rattle.prefix_merge.proofs.CountLemmas.{states_are_listed}
use Rattle.prefix_merge.proofs.laws.states_are_listed.Goals as goal

pub returns : goal.returns
returns c = states_are_listed
