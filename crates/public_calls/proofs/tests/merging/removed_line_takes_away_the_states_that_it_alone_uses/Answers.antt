use Rattle.std.proofs.Common.{arith}
use Rattle.public_calls.proofs.tests.merging.removed_line_takes_away_the_states_that_it_alone_uses.Goals as goal

-- an end has the number 0
pub remove-requires : goal.remove-requires
remove-requires g c = (c.in_ok-merged.ensures.ends 0).1 (omega (arith, c.in_ok-lines.ensures))
