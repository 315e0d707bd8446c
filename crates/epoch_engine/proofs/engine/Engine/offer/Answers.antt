use Rattle.std.proofs.Common.{◌∙◌, sym, ap, refl, subst, ◌<◌, ℕ, List}
use Rattle.std.specs.Prelude.{Option, Some, slice_get}
use Rattle.std.proofs.lemmas.Option.{slice_get_within}
use Rattle.event_types.specs.Tuple.{TupleView}
use Rattle.automaton.specs.Work.{is_in}
use Rattle.epoch_engine.specs.EngineView.{EngineView}
use Rattle.epoch_engine.specs.Offers.{IsLate, with_tuple}
use Rattle.epoch_engine.proofs.EngineLemmas.{kept_running, offered_running, view_of}
use Rattle.epoch_engine.proofs.engine.Engine.offer.Goals as goal

-- the stream is there
pub add-requires : goal.add-requires
add-requires c =
    let e = c.self.inside in
    let known = ap (λ (v : EngineView). slice_get v.layout.kinds c.args.stream) c.self.view_is ∙ c.requires.heard.known in record {
      stream = subst (λ (n : ℕ). c.args.stream < n) (sym c.self.invariant.running.can_draw.as_many) (slice_get_within e.plan.layout.kinds c.args.stream c.requires.heard.kinds known);
      touched = c.self.invariant.running.touched;
    }

-- the tuple has the kinds of its stream, which isn't derived
pub invariant_of-self : goal.invariant_of-self
invariant_of-self c =
    let e = c.self.inside in
    let known = ap (λ (v : EngineView). slice_get v.layout.kinds c.args.stream) c.self.view_is ∙ c.requires.heard.known in
    let declared = ap (λ (v : EngineView). is_in v.layout.order c.args.stream) c.self.view_is ∙ c.requires.heard.declared in record {
      fits = c.self.invariant.fits;
      running = offered_running e.plan e.holdings.stores e.epoch (record c.add.new.self { time = Some c.at-at.result }) c.args.stream c.requires.heard.kinds c.args.tuple c.self.invariant.running known declared c.requires.heard.of_kinds c.in-Ok.ensures.ok c.add.ensures.touched;
      led = c.self.invariant.led;
      watches = c.self.invariant.watches;
      still = c.self.invariant.still;
    }

-- nothing was changed
pub invariant_of-self-in-Err : goal.invariant_of-self-in-Err
invariant_of-self-in-Err c =
    let e = c.self.inside in record { fits = c.self.invariant.fits; running = kept_running e.plan e.holdings.stores e.epoch c.add.new.self c.self.invariant.running c.in-Err.ensures.kept c.add.ensures.touched; led = c.self.invariant.led; watches = c.self.invariant.watches; still = c.self.invariant.still }

-- the tuple is late
pub returns-in-Some-clause-answer : goal.returns-in-Some-clause-answer
returns-in-Some-clause-answer c = (
  subst (λ (v : EngineView). IsLate v.time v.closed_time c.args.tuple.at c.in-Some.seen) c.self.view_is
      (subst (λ (at : ℕ). IsLate c.self.inside.epoch.time c.self.inside.closed_time at c.in-Some.seen) c.at-at.ensures.value c.in-Some.ensures.late),
  c.at-at.ensures.value,
  refl,
)

-- it isn't late
pub returns-in-Ok-clause-answer : goal.returns-in-Ok-clause-answer
returns-in-Ok-clause-answer c = λ seen late.
    c.in-None.ensures.in_time seen
    (subst (λ (at : ℕ). IsLate c.self.inside.epoch.time c.self.inside.closed_time at seen) (sym c.at-at.ensures.value)
    (subst (λ (v : EngineView). IsLate v.time v.closed_time c.args.tuple.at seen) (sym c.self.view_is) late))

-- the tuple stands behind those of its stream
pub returns-in-Ok-clause-ok : goal.returns-in-Ok-clause-ok
returns-in-Ok-clause-ok c =
    let e = c.self.inside in
    let view : List (List TupleView) → ℕ → EngineView = λ tuples at. record (view_of e.plan e.holdings.stores e.epoch e.closed_time) { opened = tuples; time = Some at } in
    (λ i. view (c.in-Ok.ensures.ok i) (c.at-at.ensures.value i)) ∙ ap (λ (v : EngineView). with_tuple v c.args.stream c.args.tuple) c.self.view_is

pub returns-in-Err-clause-answer : goal.returns-in-Err-clause-answer
returns-in-Err-clause-answer c = (
  λ seen late.
      c.in-None.ensures.in_time seen
      (subst (λ (at : ℕ). IsLate c.self.inside.epoch.time c.self.inside.closed_time at seen) (sym c.at-at.ensures.value)
      (subst (λ (v : EngineView). IsLate v.time v.closed_time c.args.tuple.at seen) (sym c.self.view_is) late)),
  c.in-Err.ensures.handed_back,
)

-- the engine is as it was
pub returns-in-Err-clause-kept : goal.returns-in-Err-clause-kept
returns-in-Err-clause-kept c =
    let e = c.self.inside in
    let view : List (List TupleView) → Option ℕ → EngineView = λ tuples time. record (view_of e.plan e.holdings.stores e.epoch e.closed_time) { opened = tuples; time = time } in
    (λ i. view (c.in-Err.ensures.kept i) (c.add.ensures.time i)) ∙ c.self.view_is
