use Rattle.std.proofs.Common.{◌≡◌, ◌∙◌, ◌-◌, ◌^◌, ◌++◌, ◌<◌, map, ap, refl, subst, sym, ℕ, List, get_or, length, replicate, take, arith}
use Rattle.std.specs.Prelude.{IsTrue, Option}
use Rattle.std.proofs.lemmas.List.{length-replicate}
use Rattle.event_types.specs.Tuple.{TupleView}
use Rattle.automaton.specs.Layouts.{grown}
use Rattle.automaton.specs.NetworkLines.{NetworkFits}
use Rattle.automaton.specs.States.{Net, entrance_at, is_used}
use Rattle.automaton.specs.declared.layout.Layout.{Layout}
use Rattle.binding_index.specs.declared.store.Store.{Store}
use Rattle.prefix_merge.specs.Merging.{HasEnd, IsMerged}
use Rattle.prefix_merge.specs.Turns.{InsertsAll, InsertsFirst}
use Rattle.stream_readers.specs.KeyTables.{KeyTable}
use Rattle.epoch_draft.specs.Turns.{HaveTurns}
use Rattle.epoch_draft.proofs.TurnLemmas.{turns_before, turns_longer}
use Rattle.epoch_engine.specs.Prints.{AreInTurn, OthersHaveNone}
use Rattle.epoch_engine.proofs.PrintedLemmas.{others_grown, others_longer, told_before}
use Rattle.epoch_draft.specs.Deriving.{CanDraw}
use Rattle.epoch_draft.specs.Held.{instances_in}
use Rattle.epoch_draft.specs.Led.{AreLed}
use Rattle.epoch_draft.specs.Watching.{Watches}
use Rattle.epoch_engine.specs.Adding.{Adds, FitsWith}
use Rattle.epoch_engine.specs.EngineView.{EngineView}
use Rattle.epoch_engine.specs.Fitting.{AreLeft}
use Rattle.epoch_engine.specs.Planning.{AreReadBut}
use Rattle.epoch_engine.specs.Running.{IsEngine}
use Rattle.epoch_engine.specs.declared.plan.Plan.{Plan}
use Rattle.epoch_engine.proofs.EngineLemmas.{engine_fresh, view_of}
use Rattle.epoch_engine.proofs.KindingLemmas.{fitting_typed}
use Rattle.epoch_engine.proofs.LineLemmas.{grown_led, grown_typed, grown_watched, stores_undone}
use Rattle.epoch_engine.proofs.OverLemmas.{came_there, drawable, fits_added, grown_held}
use Rattle.epoch_engine.proofs.PlanLemmas.{came_read, came_storeless, kinds_begin, plan_longer}
use Rattle.epoch_engine.proofs.engine.Engine.add.Goals as goal

-- the ends aren't there
pub insert_all-requires-clause-fresh : goal.insert_all-requires-clause-fresh
insert_all-requires-clause-fresh c =
    subst (λ (v : EngineView). (k : ℕ) (d : ℕ) → k < length c.args.ends.now → HasEnd v.network (get_or c.args.ends.now k d) → ⊥) (sym c.self.view_is) c.requires.fresh

-- where no line came the parts are as they were
pub invariant_of-self : goal.invariant_of-self
invariant_of-self c =
    let e = c.self.inside in subst (λ (net : Net). IsEngine (record e.plan { merged = net }) e.holdings e.epoch e.room) (sym c.in_err-came.ensures.kept) c.self.invariant

-- the layout fits the network to which the lines came
pub go_over-requires-clause-fits : goal.go_over-requires-clause-fits
go_over-requires-clause-fits c =
    let e = c.self.inside in
    let lines = c.args.lines.now in
    let layout = grown e.plan.layout c.args.growth in
    let with_lines = subst (λ (v : EngineView). FitsWith v.network lines (grown v.layout c.args.growth)) (sym c.self.view_is) c.requires.fits in
    let fits = fits_added e.plan.merged c.insert_all.new.self lines c.args.ends.now c.args.since layout c.requires.as_many c.in-Ok.ensures.settled.merged c.in_ok-came.ensures.inserted with_lines in
    let merged = c.make_room.ensures.merged in
    let same = c.in-Ok.ensures.layout in subst (λ (x : Net × Layout). NetworkFits x.0 x.1) (λ i. (sym merged i, sym same i)) fits

-- the states that came are told
pub go_over-requires-clause-read : goal.go_over-requires-clause-read
go_over-requires-clause-read c =
    let e = c.self.inside in
    let typed = c.self.invariant.running.can_draw.typed in
    let inserted = c.in_ok-came.ensures.inserted in
    let came = c.in_ok-came.ensures.came in
    let merged = c.make_room.ensures.merged in
    subst (AreReadBut c.make_room.new.plan) (sym c.as_slice.ensures)
    (came_read e.plan c.make_room.new.plan c.in_ok-came.came typed.kinding typed.states c.self.invariant.running.plan_is.turns c.make_room.ensures.more.read
    (λ n there. ap (λ (net : Net). entrance_at net n) merged ∙ inserted.stay n there) (λ n there new. came n (sym (ap (λ (net : Net). is_used net n) merged) ∙ there) new))

-- the waiting states that came have no store yet
pub make_room-requires-clause-came : goal.make_room-requires-clause-came
make_room-requires-clause-came c =
    let e = c.self.inside in
    came_storeless e.plan.merged c.insert_all.new.self e.plan.layout.kinds e.holdings.stores c.in_ok-came.came c.self.invariant.running.can_draw.typed c.in_ok-came.ensures.inserted.stay c.in_ok-came.ensures.came

-- the streams that were there have their turns
pub go_over-requires-clause-worked : goal.go_over-requires-clause-worked
go_over-requires-clause-worked c =
    let e = c.self.inside in
    let order = e.plan.layout.order in
    let turns = c.make_room.new.plan.turns.turns in
    let more = c.make_room.ensures.more in
    subst (λ (l : Layout). HaveTurns (take c.len-worked.result l.order) turns) (sym c.in-Ok.ensures.layout)
    (subst (λ (n : ℕ). HaveTurns (take n (order ++ c.args.growth.order)) turns) (sym c.len-worked.ensures)
    (turns_before order c.args.growth.order turns (turns_longer order e.plan.turns.turns turns more.turns more.last c.self.invariant.running.plan_is.turns.in_turn)))

-- and those that were printed
pub go_over-requires-clause-printed : goal.go_over-requires-clause-printed
go_over-requires-clause-printed c = λ once.
    (let e = c.self.inside in
    let outs = e.plan.layout.outs in
    let prints = c.self.invariant.running.plan_is.prints in
    let turns = c.make_room.new.plan.prints.turns in
    let more = c.make_room.ensures.more in
    subst (λ (l : Layout). AreInTurn (take c.len-printed.result l.outs) turns) (sym c.in-Ok.ensures.layout)
    (subst (λ (n : ℕ). AreInTurn (take n (outs ++ c.args.growth.outs)) turns) (sym c.len-printed.ensures)
    (told_before outs c.args.growth.outs turns (record {
      in_turn = turns_longer outs e.plan.prints.turns turns more.prints more.last_printed (prints.in_turn (subst IsTrue more.once once));
      others = others_longer outs e.plan.prints.turns turns more.prints prints.others;
    }))))

-- no others have a turn
pub go_over-requires-clause-others : goal.go_over-requires-clause-others
go_over-requires-clause-others c =
    let e = c.self.inside in
    let outs = e.plan.layout.outs in
    let turns = c.make_room.new.plan.prints.turns in
    subst (λ (l : Layout). OthersHaveNone l.outs turns) (sym c.in-Ok.ensures.layout)
    (others_grown outs c.args.growth.outs turns (others_longer outs e.plan.prints.turns turns c.make_room.ensures.more.prints c.self.invariant.running.plan_is.prints.others))

-- over the new network the parts fit
pub invariant_of-self-in-Ok : goal.invariant_of-self-in-Ok
invariant_of-self-in-Ok c =
    let e = c.self.inside in
    let net = c.insert_all.new.self in
    let plan = c.go_over.new.self in
    let lines = c.args.lines.now in
    let layout = grown e.plan.layout c.args.growth in
    let settled = c.in-Ok.ensures.settled in
    let inserted = c.in_ok-came.ensures.inserted in
    let with_lines = subst (λ (v : EngineView). FitsWith v.network lines (grown v.layout c.args.growth)) (sym c.self.view_is) c.requires.fits in
    let fits = fits_added e.plan.merged net lines c.args.ends.now c.args.since layout c.requires.as_many settled.merged inserted with_lines in
    let typing = fitting_typed net layout fits in
    let merged : plan.merged ≡ net = c.go_over.ensures.merged ∙ c.make_room.ensures.merged in
    let same : plan.layout ≡ layout = c.go_over.ensures.layout ∙ c.in-Ok.ensures.layout in
    let old = e.holdings.stores in
    let new = c.make_room.new.holdings.stores in
    let tuples = c.close.new.self.tuples in
    let stores = c.in-Ok.ensures.grown in
    let typed = c.self.invariant.running.can_draw.typed in
    let network = c.self.invariant.running.can_draw.network in
    let as_many : length tuples ≡ length layout.kinds = c.close.ensures.as_many ∙ c.in-Ok.ensures.as_many ∙ ap (λ (l : Layout). length l.kinds) c.in-Ok.ensures.layout in
    let more = length net - length e.holdings.deadlines in
    record {
      fits = subst (λ (x : Net × Layout). NetworkFits x.0 x.1) (λ i. (sym merged i, sym same i)) fits;
      running = record {
        plan_is = c.go_over.ensures.is;
        can_draw = subst (λ (x : Net × Layout). CanDraw x.0 x.1 new tuples) (λ i. (sym merged i, sym same i))
            (drawable net layout new tuples fits settled.network
            (grown_typed e.plan.merged net e.plan.layout.kinds old new typed inserted.stay stores layout.kinds (kinds_begin e.plan.layout.kinds c.args.growth.kinds) typing.0 typing.1 network) as_many c.close.ensures.empty);
        touched = c.close.ensures.touched;
      };
      led = let keys = c.make_room.ensures.keys in
          subst (λ (x : Net × KeyTable). AreLed x.0 x.1 new) (λ i. (sym merged i, sym keys i)) (grown_led e.plan.merged net e.plan.layout.kinds old new typed inserted.stay stores e.holdings.keys c.self.invariant.led);
      watches = subst (λ (ds : List ℕ). Watches ds new) (sym c.in-Ok.ensures.deadlines)
          (grown_watched e.plan.merged net e.plan.layout.kinds old new typed inserted.stay stores e.holdings.deadlines (replicate more (2 ^ 128 - 1)) c.self.invariant.watches
          (let count = length-replicate more (2 ^ 128 - 1) in let longer = inserted.longer in let many = typed.as_many in let dl = c.self.invariant.watches.as_many in omega (arith, count, longer, many, dl)));
      still = c.fit_room.ensures;
    }

-- the ends that came are there
pub remove_first-requires-clause-there : goal.remove_first-requires-clause-there
remove_first-requires-clause-there c =
    came_there c.args.lines.now c.args.ends.now c.args.since c.self.inside.plan.merged c.make_room.new.plan.merged
    (subst (InsertsAll c.args.lines.now c.args.ends.now c.args.since c.self.inside.plan.merged) (sym c.make_room.ensures.merged) c.in_ok-came.ensures.inserted) c.len.result

-- all is as it was, but for room
module _ (c : goal.After-truncate-in-Err-2) where
  net : c.remove_first.new.self ≡ c.self.inside.plan.merged
  net =
      let lines = c.args.lines.now in
      let ends = c.args.ends.now in
      let was = c.self.inside.plan.merged in
      let count : length lines ≡ c.len.result = sym c.requires.as_many ∙ sym c.len.ensures in
      c.remove_first.ensures.undone lines c.args.since was
      (subst (λ n. InsertsFirst lines ends c.args.since n was c.make_room.new.plan.merged) count
      (subst (InsertsFirst lines ends c.args.since (length lines) was) (sym c.make_room.ensures.merged) c.in_ok-came.ensures.inserted.turns))

  layout : record { order = c.truncate.new.self; outs = c.truncate-in-Err.new.self; kinds = c.truncate-in-Err-2.new.self } ≡ c.self.inside.plan.layout
  layout =
      let grew = c.make_room.new.plan.layout in
      let begins = c.make_room.ensures.begins in
      let order = c.truncate.ensures ∙ ap (λ (n : ℕ). take n grew.order) c.len-worked.ensures ∙ begins.order in
      let outs = c.truncate-in-Err.ensures ∙ ap (λ (n : ℕ). take n grew.outs) c.len-printed.ensures ∙ begins.outs in
      let kinds = c.truncate-in-Err-2.ensures ∙ ap (λ (n : ℕ). take n grew.kinds) c.len-streams.ensures ∙ begins.kinds in λ i. record { order = order i; outs = outs i; kinds = kinds i }

  stores : c.drop_left.new.self.stores ≡ c.self.inside.holdings.stores
  stores =
      let e = c.self.inside in
      let left = subst (λ (n : Net). AreLeft n c.make_room.new.holdings.stores c.drop_left.new.self.stores) (c.network.ensures.value ∙ net) c.drop_left.ensures.stores in
      stores_undone e.plan.merged e.plan.layout.kinds e.holdings.stores c.make_room.new.holdings.stores c.drop_left.new.self.stores c.self.invariant.running.can_draw.typed c.in-Err.ensures.kept.each left

  deadlines : c.drop_left.new.self.deadlines ≡ c.self.inside.holdings.deadlines
  deadlines =
      let e = c.self.inside in
      let many : length c.network.result.now ≡ length e.holdings.deadlines = ap length (c.network.ensures.value ∙ net) ∙ sym c.self.invariant.running.can_draw.typed.as_many ∙ sym c.self.invariant.watches.as_many in
      c.drop_left.ensures.deadlines ∙ ap (λ (n : ℕ). take n c.make_room.new.holdings.deadlines) many ∙ c.make_room.ensures.first

  keys : c.drop_left.new.self.keys ≡ c.self.inside.holdings.keys
  keys = c.drop_left.ensures.keys ∙ c.make_room.ensures.keys

pub invariant_of-self-in-Err : goal.invariant_of-self-in-Err
invariant_of-self-in-Err c =
    let e = c.self.inside in
    let made = c.make_room.new.plan in
    let plan : Plan = record {
      merged = c.remove_first.new.self;
      layout = record { order = c.truncate.new.self; outs = c.truncate-in-Err.new.self; kinds = c.truncate-in-Err-2.new.self };
      turns = made.turns;
      prints = made.prints;
    } in
    let more = c.make_room.ensures.more in
    let is = plan_longer e.plan plan (net c) (layout c) (record { turns = more.turns; last = more.last; read = more.read; prints = more.prints; last_printed = more.last_printed; once = more.once }) c.self.invariant.running.plan_is in
    let base = engine_fresh e.plan plan (net c) (layout c) e.holdings e.epoch e.room is c.self.invariant in
    let tuples = c.in-Err.ensures.kept_tuples in
    record {
      fits = base.fits;
      running = record {
        plan_is = is;
        can_draw = subst (λ (x : List (Option Store) × List (List TupleView)). CanDraw plan.merged plan.layout x.0 x.1) (λ i. (sym (stores c) i, sym tuples i)) base.running.can_draw;
        touched = c.make_room.ensures.touched;
      };
      led = subst (λ (x : KeyTable × List (Option Store)). AreLed plan.merged x.0 x.1) (λ i. (sym (keys c) i, sym (stores c) i)) base.led;
      watches = subst (λ (x : List ℕ × List (Option Store)). Watches x.0 x.1) (λ i. (sym (deadlines c) i, sym (stores c) i)) base.watches;
      still = base.still;
    }

-- contracts see the lines that came
pub returns-in-Ok-clause-added : goal.returns-in-Ok-clause-added
returns-in-Ok-clause-added c =
    let e = c.self.inside in
    let net = c.insert_all.new.self in
    let plan = c.go_over.new.self in
    let lines = c.args.lines.now in
    let ends = c.args.ends.now in
    let layout = grown e.plan.layout c.args.growth in
    let settled = c.in-Ok.ensures.settled in
    let inserted = c.in_ok-came.ensures.inserted in
    let with_lines = subst (λ (v : EngineView). FitsWith v.network lines (grown v.layout c.args.growth)) (sym c.self.view_is) c.requires.fits in
    let fits = fits_added e.plan.merged net lines ends c.args.since layout c.requires.as_many settled.merged inserted with_lines in
    let merged : plan.merged ≡ net = c.go_over.ensures.merged ∙ c.make_room.ensures.merged in
    let same : plan.layout ≡ layout = c.go_over.ensures.layout ∙ c.in-Ok.ensures.layout in
    let new = c.make_room.new.holdings.stores in
    subst (λ (v : EngineView). Adds lines ends c.args.since (grown v.layout c.args.growth) v (view_of plan new c.close.new.self e.closed_time)) c.self.view_is (record {
      goes_over = record {
        merged = subst IsMerged (sym merged) settled.merged;
        same_layout = same;
        fits = subst (λ (n : Net). NetworkFits n layout) (sym merged) fits;
        opened = c.close.ensures.empty;
        as_many = c.close.ensures.as_many ∙ c.in-Ok.ensures.as_many ∙ ap (λ (l : Layout). length l.kinds) c.in-Ok.ensures.layout;
        none_open = c.close.ensures.time;
        same_closed = refl;
      };
      inserted = subst (InsertsAll lines ends c.args.since e.plan.merged) (sym merged) inserted;
      stores = grown_held net e.holdings.stores new c.in-Ok.ensures.grown;
    })

-- contracts see what they saw
pub returns-clause-kept : goal.returns-clause-kept
returns-clause-kept c =
    let e = c.self.inside in
    let tuples = c.in-Err.ensures.kept_tuples in
    let time = c.make_room.ensures.time in
    (λ i. record (view_of e.plan e.holdings.stores e.epoch e.closed_time) { network = net c.before i; layout = layout c.before i; stores = map instances_in (stores c.before i); opened = tuples i; time = time i }) ∙ c.self.view_is
