use Rattle.resubscribe.proofs.ChangeLemmas.{added_comes_last, leaving_keeps_order}
use Rattle.resubscribe.proofs.laws.others_keep_their_order.Goals as goal

pub returns : goal.returns
returns c = record { added = added_comes_last; left = leaving_keeps_order }
