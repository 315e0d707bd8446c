use Rattle.automaton.proofs.EqualityLemmas.{same_more}
use Rattle.automaton.proofs.equality.is_same_step.Goals as goal

-- one more stage is the same
pub loop-place-preserved : goal.loop-place-preserved
loop-place-preserved c =
    same_more c.args.step.now c.args.other.now c.loop-place.place c.get.result.now c.get-in-loop-place.result.now c.get.ensures c.get-in-loop-place.ensures (c.is_same.ensures.0 c.if-not-is_same.false) c.loop-place.invariant
