use Rattle.std.proofs.Common.{arith, refl}
use Rattle.public_calls.proofs.tests.merging.freed_number_is_taken_again.Goals as goal

-- an end has the number 0
pub remove-requires : goal.remove-requires
remove-requires g c = (c.in_ok-merged.ensures.ends 0).1 (omega (arith, c.in_ok-lines.ensures))

-- and then none
pub come-requires : goal.come-requires
come-requires g c = λ has. ((c.remove.ensures.removed.ends 0).0 has).1 refl
