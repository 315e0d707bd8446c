use Rattle.static_index.proofs.LawLemmas.{matched_is_looked_up}
use Rattle.static_index.proofs.laws.matched_conditions_are_looked_up.Goals as goal

pub returns : goal.returns
returns c = matched_is_looked_up
