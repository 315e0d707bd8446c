use Rattle.std.proofs.Common.{arith}
use Rattle.static_index.proofs.HoldingLemmas.{all_given}
use Rattle.static_index.proofs.choosing.choose.Goals as goal

pub returns-then-is_equality-clause-covers : goal.returns-then-is_equality-clause-covers
returns-then-is_equality-clause-covers c = λ event all. all_given event c.args.parts.now c.best_part-best.result all

-- the best part is no equality, so none is
pub returns-in-Some-clause-best : goal.returns-in-Some-clause-best
returns-in-Some-clause-best c = λ place d lt.
    let least = c.best_part-best.ensures.best place d lt in
    let one = c.is_equality.ensures c.if-is_equality.false d (c.best_part-best.ensures.within (omega (arith, lt))) in
    omega (arith, least, one)

pub returns-in-None-clause-covers : goal.returns-in-None-clause-covers
returns-in-None-clause-covers c = λ event all. all_given event c.args.parts.now c.best_part-best.result all
