use Rattle.source_merge.proofs.CallLemmas.{calls_give_settled}
use Rattle.source_merge.proofs.laws.given_events_are_a_front_of_the_settled_ones.Goals as goal

pub returns : goal.returns
returns c = calls_give_settled
