use Rattle.std.proofs.Common.{Box, Global, ◌≡◌, ◌∙◌, sym, refl, subst, ◌+◌, ◌≤◌}
use Rattle.std.specs.Prelude.{IfSome, IsSome, Option}
use Rattle.semantics.specs.Denotation.{streams_of}
use Rattle.epoch_engine.specs.Closes.{Closes}
use Rattle.epoch_engine.specs.EngineView.{EngineView, stores_in}
use Rattle.automaton.specs.States.{Net}
use Rattle.epoch_draft.specs.Led.{AreLed}
use Rattle.epoch_draft.proofs.Lists.{on_err}
use Rattle.epoch_draft.specs.EpochWork.{epoch_work}
use Rattle.epoch_engine.specs.Running.{IsStillFor}
use Rattle.epoch_engine.specs.Taking.{TakesEpoch}
use Rattle.epoch_engine.specs.declared.room.Room.{Room}
use Rattle.epoch_engine.specs.WorkLaws.{IsConsistent}
use Rattle.epoch_engine.proofs.ConsistentLemmas.{consistent}
use Rattle.epoch_engine.proofs.EngineLemmas.{closed_running, closes_ticks, closes_view, engine_fresh, running_fresh, view_fresh, view_of, view_same, with_same, with_typed}
use Rattle.epoch_engine.proofs.WorkLemmas.{rises_by_work}
use Rattle.epoch_engine.proofs.engine.Engine.close.Goals as goal

-- the open epoch was taken
pub returns-clause-closed : goal.returns-clause-closed
returns-clause-closed g c =
    let e = c.self.inside in
    let plan = c.refresh.new.self in
    let after = c.take_epoch.new.holdings.stores in
    let epoch = c.close.new.self in
    let batch = c.make-2.result in
    subst (λ (v : EngineView). Closes v (view_of plan after epoch e.epoch.time) batch) (view_fresh e.plan plan c.refresh.ensures.merged c.refresh.ensures.layout e.holdings.stores e.epoch e.closed_time ∙ c.self.view_is)
    (closes_view plan e.holdings.stores after e.epoch epoch e.closed_time batch c.close.ensures.empty c.close.ensures.as_many c.close.ensures.time e.epoch.time refl
    (subst (λ (v : EngineView). IsSome v.time) (sym c.self.view_is) c.requires.opened) (subst (TakesEpoch plan e.epoch e.holdings.stores after) (sym c.make-2.ensures) c.in_ok-take_epoch.ensures.taken))

-- after want of memory the engine runs on, without room
pub invariant_of-self-in_err-take_epoch : goal.invariant_of-self-in_err-take_epoch
invariant_of-self-in_err-take_epoch g c =
    let e = c.self.inside in
    let plan = c.refresh.new.self in
    let fresh = engine_fresh e.plan plan c.refresh.ensures.merged c.refresh.ensures.layout e.holdings e.epoch e.room c.refresh.ensures.is c.self.invariant in record {
      fits = fresh.fits;
      running = with_same plan e.holdings.stores c.take_epoch.new.holdings.stores e.epoch c.in_err-take_epoch.ensures.kept fresh.running;
      led = c.take_epoch.ensures.led;
      watches = c.take_epoch.ensures.watches;
      still = subst (λ (kept : Option (Box Room Global)). IfSome kept (λ room. IsStillFor plan room.value.drawing)) (sym c.take.ensures.after) tt;
    }

-- once the epoch is closed none is open
pub invariant_of-self-2 : goal.invariant_of-self-2
invariant_of-self-2 g c =
    let e = c.self.inside in
    let plan = c.refresh.new.self in
    let after = c.take_epoch.new.holdings.stores in
    let fresh = engine_fresh e.plan plan c.refresh.ensures.merged c.refresh.ensures.layout e.holdings e.epoch e.room c.refresh.ensures.is c.self.invariant in record {
      fits = fresh.fits;
      running =
          closed_running plan after e.epoch c.close.new.self (with_typed plan e.holdings.stores after e.epoch fresh.running c.in_ok-take_epoch.ensures.typed) c.close.ensures.as_many c.close.ensures.empty c.close.ensures.touched;
      led = c.take_epoch.ensures.led;
      watches = c.take_epoch.ensures.watches;
      still = subst (λ (kept : Option (Box Room Global)). IfSome kept (λ room. IsStillFor plan room.value.drawing)) (sym c.take.ensures.after) tt;
    }

-- and contracts see what they saw
pub returns-in_err-take_epoch-clause-kept : goal.returns-in_err-take_epoch-clause-kept
returns-in_err-take_epoch-clause-kept g c =
    let e = c.self.inside in
    let plan = c.refresh.new.self in
    let after = c.take_epoch.new.holdings.stores in
    on_err c.from_residual-in_err-take_epoch.result (view_of plan after e.epoch e.closed_time ≡ c.args.self.now)
    (view_same plan e.holdings.stores after e.epoch e.closed_time c.in_err-take_epoch.ensures.kept ∙ view_fresh e.plan plan c.refresh.ensures.merged c.refresh.ensures.layout e.holdings.stores e.epoch e.closed_time ∙ c.self.view_is)

-- no more is tested than the tuples of the epoch ask for
pub returns-in_err-take_epoch-clause-ticks : goal.returns-in_err-take_epoch-clause-ticks
returns-in_err-take_epoch-clause-ticks g c =
    let e = c.self.inside in
    let plan = c.refresh.new.self in
    subst (λ (v : EngineView). c.take_epoch.new.steps ≤ c.args.steps.now + epoch_work v.network v.layout (stores_in v) (streams_of v.opened))
    (view_fresh e.plan plan c.refresh.ensures.merged c.refresh.ensures.layout e.holdings.stores e.epoch e.closed_time ∙ c.self.view_is)
    (closes_ticks plan e.holdings.stores e.epoch e.closed_time c.args.steps.now c.take_epoch.new.steps c.take_epoch.ensures.ticks)

pub returns-clause-ticks : goal.returns-clause-ticks
returns-clause-ticks g c =
    let e = c.self.inside in
    let plan = c.refresh.new.self in
    subst (λ (v : EngineView). c.take_epoch.new.steps ≤ c.args.steps.now + epoch_work v.network v.layout (stores_in v) (streams_of v.opened))
    (view_fresh e.plan plan c.refresh.ensures.merged c.refresh.ensures.layout e.holdings.stores e.epoch e.closed_time ∙ c.self.view_is)
    (closes_ticks plan e.holdings.stores e.epoch e.closed_time c.args.steps.now c.take_epoch.new.steps c.take_epoch.ensures.ticks)

-- whatever the engine stands for, that is no more than the history asks for
pub returns-in_err-take_epoch-clause-work : goal.returns-in_err-take_epoch-clause-work
returns-in_err-take_epoch-clause-work g c =
    let e = c.self.inside in
    let plan = c.refresh.new.self in
    rises_by_work c.args.self.now c.args.steps.now c.take_epoch.new.steps (subst IsConsistent c.self.view_is (consistent e.plan e.holdings.stores e.epoch e.closed_time c.self.invariant.running))
    (subst (λ (v : EngineView). c.take_epoch.new.steps ≤ c.args.steps.now + epoch_work v.network v.layout (stores_in v) (streams_of v.opened))
    (view_fresh e.plan plan c.refresh.ensures.merged c.refresh.ensures.layout e.holdings.stores e.epoch e.closed_time ∙ c.self.view_is)
    (closes_ticks plan e.holdings.stores e.epoch e.closed_time c.args.steps.now c.take_epoch.new.steps c.take_epoch.ensures.ticks))

pub returns-clause-work : goal.returns-clause-work
returns-clause-work g c =
    let e = c.self.inside in
    let plan = c.refresh.new.self in
    rises_by_work c.args.self.now c.args.steps.now c.take_epoch.new.steps (subst IsConsistent c.self.view_is (consistent e.plan e.holdings.stores e.epoch e.closed_time c.self.invariant.running))
    (subst (λ (v : EngineView). c.take_epoch.new.steps ≤ c.args.steps.now + epoch_work v.network v.layout (stores_in v) (streams_of v.opened))
    (view_fresh e.plan plan c.refresh.ensures.merged c.refresh.ensures.layout e.holdings.stores e.epoch e.closed_time ∙ c.self.view_is)
    (closes_ticks plan e.holdings.stores e.epoch e.closed_time c.args.steps.now c.take_epoch.new.steps c.take_epoch.ensures.ticks))

-- with a plan that is fresh the engine runs as before
pub take_epoch-requires-clause-running : goal.take_epoch-requires-clause-running
take_epoch-requires-clause-running g c =
    let e = c.self.inside in
    running_fresh e.plan c.refresh.new.self c.refresh.ensures.merged c.refresh.ensures.layout e.holdings.stores e.epoch c.refresh.ensures.is c.self.invariant.running

pub take_epoch-requires-clause-led : goal.take_epoch-requires-clause-led
take_epoch-requires-clause-led g c =
    let e = c.self.inside in
    subst (λ (net : Net). AreLed net e.holdings.keys e.holdings.stores) (sym c.refresh.ensures.merged) c.self.invariant.led

-- where the plan wasn't made anew, contracts see what they saw
pub returns-in_err-refresh-clause-kept : goal.returns-in_err-refresh-clause-kept
returns-in_err-refresh-clause-kept g c =
    let e = c.self.inside in
    let plan = c.refresh.new.self in
    on_err c.from_residual.result (view_of plan e.holdings.stores e.epoch e.closed_time ≡ c.args.self.now)
    (view_fresh e.plan plan c.refresh.ensures.merged c.refresh.ensures.layout e.holdings.stores e.epoch e.closed_time ∙ c.self.view_is)
