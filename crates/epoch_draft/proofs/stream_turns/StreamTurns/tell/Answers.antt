use Rattle.std.proofs.Common.{◌∙◌, ◌≤◌, ℕ, List, length, refl, subst, arith}
use Rattle.epoch_draft.specs.Agenda.{AreTold}
use Rattle.epoch_draft.proofs.Lists.{taken_all}
use Rattle.epoch_draft.proofs.ToldLemmas.{told_more, told_none}
use Rattle.epoch_draft.proofs.stream_turns.StreamTurns.tell.Goals as goal

pub loop-state-init : goal.loop-state-init
loop-state-init c = (told_none c.args.network.now c.args.self.now.read, refl)

-- that of one state more is
pub loop-state-preserved : goal.loop-state-preserved
loop-state-preserved c = (
  told_more c.args.network.now c.args.states.now c.loop-state.state-index c.args.self.now.read c.loop-state.self.read c.tell_of.new.self.read c.loop-state-test.true c.tell_of.ensures.told c.tell_of.ensures.stay c.loop-state.invariant.0,
  c.tell_of.ensures.turns ∙ c.loop-state.invariant.1,
)

pub returns-clause-told : goal.returns-clause-told
returns-clause-told c =
    let states = c.args.states.now in
    let past : length states ≤ c.loop-state.state-index = omega arith in
    subst (λ (ns : List ℕ). AreTold c.args.network.now ns c.args.self.now.read c.loop-state.self.read) (taken_all states c.loop-state.state-index past) c.loop-state.invariant.0
