use Rattle.static_index.proofs.LawLemmas.{holding_is_matched}
use Rattle.static_index.proofs.laws.holding_conditions_are_matched.Goals as goal

pub returns : goal.returns
returns c = holding_is_matched
