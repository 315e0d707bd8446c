use Rattle.prefix_merge.proofs.LawLemmas.{states_are}
use Rattle.prefix_merge.proofs.laws.states_are_prefixes.Goals as goal

pub returns : goal.returns
returns c = states_are
