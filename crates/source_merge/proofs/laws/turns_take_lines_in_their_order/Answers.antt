use Rattle.source_merge.proofs.GrowingLemmas.{turns_leave_lines}
use Rattle.source_merge.proofs.laws.turns_take_lines_in_their_order.Goals as goal

pub returns : goal.returns
returns c = turns_leave_lines
