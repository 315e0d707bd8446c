use Rattle.std.proofs.Common.{sym, subst, ap, List, length, arith}
use Rattle.std.proofs.lemmas.Option.{IfSome_then}
use Rattle.semantics.specs.Denotation.{streams_of}
use Rattle.epoch_laws.specs.Closing.{Stores}
use Rattle.epoch_draft.specs.Held.{held}
use Rattle.epoch_draft.proofs.StoreLemmas.{can_draw_same, held_same}
use Rattle.epoch_draft.specs.EpochWork.{taking_work}
use Rattle.event_types.specs.Tuple.{TupleView}
use Rattle.epoch_engine.specs.Batches.{IsOfMade}
use Rattle.epoch_engine.specs.Closes.{IsTaken}
use Rattle.epoch_engine.specs.Results.{results_of}
use Rattle.epoch_engine.proofs.BatchLemmas.{fits_itself}
use Rattle.epoch_engine.proofs.ClosedLemmas.{taken, typed_after}
use Rattle.epoch_engine.proofs.EngineLemmas.{printed_inside, with_same}
use Rattle.epoch_engine.proofs.closing.take_epoch.Goals as goal

-- with room for what comes the engine runs as before
pub settle_epoch-requires-clause-running : goal.settle_epoch-requires-clause-running
settle_epoch-requires-clause-running g c =
    with_same c.args.plan.now c.args.holdings.now.stores c.draw_epoch.new.holdings.stores c.args.epoch.now c.draw_epoch.ensures.same c.requires.running

-- what was drawn and settled is taken
pub returns-clause-taken : goal.returns-clause-taken
returns-clause-taken g c =
    let plan = c.args.plan.now in
    let epoch = c.args.epoch.now in
    let drawing = c.draw_epoch.new.room.drawing in
    let streams = c.draw_epoch.new.room.streams in
    let outs = plan.layout.outs in
    let mid = c.draw_epoch.new.holdings.stores in
    let after = c.settle_epoch.new.holdings.stores in
    let made = c.settle_epoch.new.drawing.draft.made in
    let batch = results_of streams (streams_of made) in
    IfSome_then epoch.time c.settle_epoch.ensures.settled
    (λ time closed.
    subst (λ (stores : Stores). IsTaken plan.merged plan.layout time stores (streams_of epoch.tuples) (held after) batch) (sym (held_same c.args.holdings.now.stores mid c.draw_epoch.ensures.same))
    (taken plan.merged plan.layout time mid after epoch.tuples batch drawing.draft drawing.pairs c.requires.running.plan_is.printed c.in_ok-draw_epoch.ensures.drawn closed
    (subst (λ (lists : List (List TupleView)). IsOfMade outs drawing.draft.made (results_of streams (streams_of lists))) (sym c.settle_epoch.ensures.made) c.in_ok-draw_epoch.ensures.listed.all)))

-- and stands in the room
pub returns-clause-batch : goal.returns-clause-batch
returns-clause-batch g c =
    let plan = c.args.plan.now in
    let draft = c.settle_epoch.new.drawing.draft in
    let fits = c.settle_epoch.ensures.fits in record {
      within = printed_inside plan c.requires.running.plan_is c.requires.running.can_draw.order (length draft.made) fits.made c.draw_epoch.new.room.streams c.in_ok-draw_epoch.ensures.listed.among;
      fits = fits_itself (length plan.layout.kinds) (length plan.merged) draft fits;
    }

-- and the stores are typed
pub returns-clause-typed : goal.returns-clause-typed
returns-clause-typed g c =
    let plan = c.args.plan.now in
    let epoch = c.args.epoch.now in
    let drawing = c.draw_epoch.new.room.drawing in
    let mid = c.draw_epoch.new.holdings.stores in
    typed_after plan.merged plan.layout mid c.settle_epoch.new.holdings.stores epoch.tuples drawing.draft drawing.pairs
    (can_draw_same plan.merged plan.layout c.args.holdings.now.stores mid epoch.tuples c.draw_epoch.ensures.same c.requires.running.can_draw) c.in_ok-draw_epoch.ensures.drawn epoch.time c.requires.opened c.settle_epoch.ensures.settled

-- want of memory comes in the first half
pub returns-in_err-draw_epoch-clause-ticks : goal.returns-in_err-draw_epoch-clause-ticks
returns-in_err-draw_epoch-clause-ticks g c = let one = c.draw_epoch.ensures.ticks in omega (arith, one)

-- both halves together
pub returns-clause-ticks : goal.returns-clause-ticks
returns-clause-ticks g c =
    let plan = c.args.plan.now in
    let same =
    ap (λ (st : Stores). taking_work plan.merged plan.layout st (streams_of c.args.epoch.now.tuples)) (held_same c.args.holdings.now.stores c.draw_epoch.new.holdings.stores c.draw_epoch.ensures.same) in
    let one = c.draw_epoch.ensures.ticks in
    let two = c.settle_epoch.ensures.ticks in
    let takes = c.in_ok-draw_epoch.ensures.takes in omega (arith, same, one, two, takes)
