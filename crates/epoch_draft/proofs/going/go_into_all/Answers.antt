use Rattle.std.proofs.Common.{◌∙◌, ◌+◌, ◌≤◌, List, subst, ap, arith}
use Rattle.automaton.specs.Steps.{pass}
use Rattle.automaton.specs.declared.step.Stage.{Stage}
use Rattle.stream_readers.specs.Ways.{Into}
use Rattle.epoch_draft.specs.Work.{keeps}
use Rattle.epoch_draft.proofs.GoingLemmas.{go_more}
use Rattle.epoch_draft.proofs.WorkLemmas.{ways_more, ways_part}
use Rattle.epoch_draft.proofs.going.go_into_all.Goals as goal

-- one state more
pub loop-state-preserved : goal.loop-state-preserved
loop-state-preserved g c =
    let net = c.args.network.now in
    let states = c.args.states.now in
    let i = c.loop-state.state-index in
    let lt = c.loop-state-test.true in
    let more = ways_more Into net states i 0 lt in
    let was = c.loop-state.invariant.ticks in
    let step = c.as_slice.ensures ∙ c.step.ensures in
    let one = subst (λ (step : List Stage). c.go_into.new.steps ≤ c.loop-state.steps + keeps step) step c.in_ok-go_into.ensures.ticks in
    record {
      grows = go_more Into net states i 0 c.args.instance.now c.args.draft.now c.loop-state.draft c.go_into.new.draft lt c.loop-state.invariant.grows
          (c.in_ok-go_into.ensures.grows net c.loop-state.invariant.grows.fits.beads (ap (λ step. pass step c.args.instance.now.tuple) step));
      ticks = omega (arith, more, was, one);
    }

-- want of memory comes after some of the tests
pub returns-in_err-go_into-clause-ticks : goal.returns-in_err-go_into-clause-ticks
returns-in_err-go_into-clause-ticks g c =
    let part = ways_part Into c.args.network.now c.args.states.now c.loop-state.state-index 0 c.loop-state-test.true in
    let was = c.loop-state.invariant.ticks in
    let one = subst (λ (step : List Stage). c.go_into.new.steps ≤ c.loop-state.steps + keeps step) (c.as_slice.ensures ∙ c.step.ensures) c.go_into.ensures.ticks in omega (arith, part, was, one)
