use Rattle.resubscribe.proofs.CycleLemmas.{not_both, one_cycle}
use Rattle.resubscribe.proofs.OrderLemmas.{one_order}
use Rattle.resubscribe.proofs.laws.one_outcome.Goals as goal

pub returns : goal.returns
returns c = record { order = one_order; cycle = one_cycle; not_both = not_both }
