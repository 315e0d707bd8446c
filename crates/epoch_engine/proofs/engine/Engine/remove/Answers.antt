use Rattle.std.proofs.Common.{◌≡◌, ◌∙◌, ◌<◌, cond, map, refl, subst, sym, ℕ, List, [], get_or, length, take, arith}
use Rattle.std.specs.Prelude.{All, is_some}
use Rattle.std.specs.List.{remove}
use Rattle.std.proofs.lemmas.Option.{get_or_from_slice_get}
use Rattle.std.proofs.lemmas.List.{take_all}
use Rattle.automaton.specs.Layouts.{shrunk}
use Rattle.automaton.specs.NetworkLines.{NetworkFits}
use Rattle.automaton.specs.States.{Net, wait_at}
use Rattle.automaton.specs.declared.layout.Layout.{Layout}
use Rattle.prefix_merge.specs.Merging.{HasEnd, IsMerged}
use Rattle.prefix_merge.specs.Turns.{RemovesAll}
use Rattle.epoch_draft.specs.Deriving.{CanDraw}
use Rattle.epoch_draft.specs.Held.{instances_in}
use Rattle.epoch_draft.specs.Led.{AreLed}
use Rattle.epoch_draft.specs.Turns.{HaveTurns}
use Rattle.epoch_draft.proofs.Lists.{all_at}
use Rattle.epoch_draft.proofs.TurnLemmas.{turns_cut, turns_removed}
use Rattle.epoch_engine.specs.Prints.{HasLeft}
use Rattle.epoch_draft.specs.Watching.{Watches}
use Rattle.epoch_engine.specs.Adding.{Drops, FitsWithout}
use Rattle.epoch_engine.specs.EngineView.{EngineView}
use Rattle.stream_readers.specs.KeyTables.{KeyTable}
use Rattle.epoch_engine.specs.Fitting.{AreLeft, HaveNoStoresBut}
use Rattle.epoch_engine.proofs.EngineLemmas.{outs_below, view_of}
use Rattle.epoch_engine.proofs.KindingLemmas.{fitting_typed}
use Rattle.epoch_engine.proofs.LeaveLemmas.{left_led, left_typed, left_watched}
use Rattle.epoch_engine.proofs.OverLemmas.{drawable, fits_left, left_held}
use Rattle.epoch_engine.proofs.PlanLemmas.{left_storeless, listed}
use Rattle.epoch_engine.proofs.PrintedLemmas.{gone_from, others_stay}
use Rattle.epoch_engine.proofs.engine.Engine.remove.Goals as goal

-- the ends are there
pub remove_first-requires-clause-there : goal.remove_first-requires-clause-there
remove_first-requires-clause-there c =
    let ends = c.args.ends.now in
    subst (λ (ns : List ℕ). All (HasEnd c.self.inside.plan.merged) ns) (sym (take_all c.len.result ends (omega (arith, c.len.ensures))))
    (subst (λ (v : EngineView). All (HasEnd v.network) ends) (sym c.self.view_is) c.requires.there)

-- what is held at states that left is noted
pub shrink-requires-clause-noted : goal.shrink-requires-clause-noted
shrink-requires-clause-noted c = λ none_missed.
    (let e = c.self.inside in
    let net = c.remove_first.new.self in
    let removed = subst (λ (ns : List ℕ). RemovesAll ns e.plan.merged net) (take_all c.len.result c.args.ends.now (omega (arith, c.len.ensures))) c.remove_first.ensures.removed in
    subst (λ (n : Net). HaveNoStoresBut n c.remove_first.new.left.numbers e.holdings.stores) (sym c.network.ensures.value)
    (left_storeless e.plan.merged net e.plan.layout.kinds e.holdings.stores c.remove_first.new.left.numbers c.self.invariant.running.can_draw.typed removed.stay
    (λ n there gone. listed c.remove_first.new.left n none_missed (c.remove_first.ensures.left.left n there gone))))

-- the layout fits the network that is left
pub leave-requires-clause-fits : goal.leave-requires-clause-fits
leave-requires-clause-fits c =
    let e = c.self.inside in
    let ends = c.args.ends.now in
    let layout = shrunk e.plan.layout c.args.part in
    let removed = subst (λ (ns : List ℕ). RemovesAll ns e.plan.merged c.remove_first.new.self) (take_all c.len.result ends (omega (arith, c.len.ensures))) c.remove_first.ensures.removed in
    let without = subst (λ (v : EngineView). FitsWithout v.network ends (shrunk v.layout c.args.part)) (sym c.self.view_is) c.requires.fits in
    subst (NetworkFits c.remove_first.new.self) (sym c.shrink-2.ensures) (fits_left e.plan.merged c.remove_first.new.self ends layout c.network.ensures.merged removed without)

-- the streams that are left have their turns
pub leave-requires-clause-worked : goal.leave-requires-clause-worked
leave-requires-clause-worked c =
    let plan = c.self.inside.plan in
    let part = c.args.part in
    subst (λ (l : Layout). HaveTurns l.order plan.turns.turns) (sym c.shrink-2.ensures)
    (turns_cut plan.layout.order plan.turns.turns part.first part.end c.requires.up c.self.invariant.running.plan_is.turns.in_turn)

-- the stream that was printed has kinds
pub leave-requires-clause-stream : goal.leave-requires-clause-stream
leave-requires-clause-stream c =
    let plan = c.self.inside.plan in
    subst (λ (l : Layout). c.get-stream.result.now < length l.kinds) (sym c.shrink-2.ensures)
    (all_at (λ stream. stream < length plan.layout.kinds) plan.layout.outs c.args.part.out c.get-stream.result.now (outs_below plan.merged plan.layout c.self.invariant.fits) c.get-stream.ensures)

-- the others are printed still
pub leave-requires-clause-left : goal.leave-requires-clause-left
leave-requires-clause-left c =
    let plan = c.self.inside.plan in
    let outs = plan.layout.outs in
    let out = c.args.part.out in
    let prints = c.self.invariant.running.plan_is.prints in
    let there = subst (λ (v : EngineView). out < length v.layout.outs) (sym c.self.view_is) c.requires.printed in
    let stream = get_or_from_slice_get outs out c.get-stream.result.now 0 c.get-stream.ensures in
    subst (λ (l : Layout). HasLeft c.get-stream.result.now l.outs plan.prints) (sym c.shrink-2.ensures)
    (subst (λ (s : ℕ). HasLeft s (remove outs out) plan.prints) stream (record {
      others = others_stay outs plan.prints.turns out there prints.others;
      in_turn = λ once. turns_removed outs plan.prints.turns out (prints.in_turn once);
      gone = λ once. gone_from outs plan.prints.turns out there (prints.in_turn once);
    }))

-- over the network that is left the parts fit
pub invariant_of-self : goal.invariant_of-self
invariant_of-self c =
    let e = c.self.inside in
    let ends = c.args.ends.now in
    let net = c.remove_first.new.self in
    let plan = c.leave.new.self in
    let layout = shrunk e.plan.layout c.args.part in
    let settled = c.network.ensures.settled in
    let value = c.network.ensures.value in
    let removed = subst (λ (ns : List ℕ). RemovesAll ns e.plan.merged net) (take_all c.len.result ends (omega (arith, c.len.ensures))) c.remove_first.ensures.removed in
    let without = subst (λ (v : EngineView). FitsWithout v.network ends (shrunk v.layout c.args.part)) (sym c.self.view_is) c.requires.fits in
    let fits = fits_left e.plan.merged net ends layout settled.merged removed without in
    let typing = fitting_typed net layout fits in
    let merged : plan.merged ≡ net = c.leave.ensures.merged in
    let same : plan.layout ≡ layout = c.leave.ensures.layout ∙ c.shrink-2.ensures in
    let old = e.holdings.stores in
    let new = c.shrink.new.self.stores in
    let tuples = c.close.new.self.tuples in
    let typed = c.self.invariant.running.can_draw.typed in
    let left = subst (λ (n : Net). AreLeft n old new) value c.shrink.ensures.stores in
    let deadlines = subst (λ (n : Net). c.shrink.new.self.deadlines ≡ take (length n) e.holdings.deadlines) value c.shrink.ensures.deadlines in
    let shorter = removed.shorter in
    let many = typed.as_many in
    record {
      fits = subst (λ (x : Net × Layout). NetworkFits x.0 x.1) (λ i. (sym merged i, sym same i)) fits;
      running = record {
        plan_is = c.leave.ensures.is;
        can_draw = subst (λ (x : Net × Layout). CanDraw x.0 x.1 new tuples) (λ i. (sym merged i, sym same i))
            (drawable net layout new tuples fits settled.network (left_typed e.plan.merged net layout.kinds old new typed removed.stay left typing.0 typing.1 settled.network)
            (c.close.ensures.as_many ∙ c.self.invariant.running.can_draw.as_many) c.close.ensures.empty);
        touched = c.close.ensures.touched;
      };
      led = subst (λ (n : Net). AreLed n c.shrink.new.self.keys new) (sym merged)
          (subst (λ (table : KeyTable). AreLed net table new) (sym c.shrink.ensures.keys) (left_led e.plan.merged net layout.kinds old new typed removed.stay left e.holdings.keys c.self.invariant.led));
      watches = subst (λ (ds : List ℕ). Watches ds new) (sym deadlines)
          (left_watched e.plan.merged net layout.kinds old new typed removed.stay left e.holdings.deadlines (omega (arith, shorter, many)) c.self.invariant.watches);
      still = c.fit_room.ensures;
    }

-- contracts see the lines that are left
pub returns : goal.returns
returns c =
    let e = c.self.inside in
    let ends = c.args.ends.now in
    let net = c.remove_first.new.self in
    let plan = c.leave.new.self in
    let layout = shrunk e.plan.layout c.args.part in
    let settled = c.network.ensures.settled in
    let removed = subst (λ (ns : List ℕ). RemovesAll ns e.plan.merged net) (take_all c.len.result ends (omega (arith, c.len.ensures))) c.remove_first.ensures.removed in
    let without = subst (λ (v : EngineView). FitsWithout v.network ends (shrunk v.layout c.args.part)) (sym c.self.view_is) c.requires.fits in
    let fits = fits_left e.plan.merged net ends layout settled.merged removed without in
    let merged : plan.merged ≡ net = c.leave.ensures.merged in
    let new = c.shrink.new.self.stores in
    let left = left_held net e.holdings.stores new (subst (λ (n : Net). AreLeft n e.holdings.stores new) c.network.ensures.value c.shrink.ensures.stores) in
    subst (λ (v : EngineView). Drops ends (shrunk v.layout c.args.part) v (view_of plan new c.close.new.self e.closed_time)) c.self.view_is (record {
      goes_over = record {
        merged = subst IsMerged (sym merged) settled.merged;
        same_layout = c.leave.ensures.layout ∙ c.shrink-2.ensures;
        fits = subst (λ (n : Net). NetworkFits n layout) (sym merged) fits;
        opened = c.close.ensures.empty;
        as_many = c.close.ensures.as_many ∙ c.self.invariant.running.can_draw.as_many;
        none_open = c.close.ensures.time;
        same_closed = refl;
      };
      removed = subst (RemovesAll ends e.plan.merged) (sym merged) removed;
      stores = subst (λ (n : Net). (number : ℕ) → get_or (map instances_in new) number [] ≡ cond (is_some (wait_at n number)) (get_or (map instances_in e.holdings.stores) number []) []) (sym merged) left;
    })
