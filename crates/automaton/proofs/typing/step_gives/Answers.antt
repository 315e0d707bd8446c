use Rattle.automaton.proofs.TypingLemmas.{stage_leads}
use Rattle.automaton.proofs.typing.step_gives.Goals as goal

-- the next stage leads on
pub loop-stage-preserved : goal.loop-stage-preserved
loop-stage-preserved c =
    stage_leads c.args.kinds c.as_slice-stage-items.result.now c.loop-stage.stage-index c.loop-stage.kinds c.stage-item.result c.loop-stage-test.true c.stage-item.is c.loop-stage.invariant
    c.in_ok-kinds.kinds c.in_ok-kinds.ensures
