use Rattle.std.proofs.Common.{◌∙◌, ap, sym, subst, ℕ, ◌+◌, ◌≤◌, length}
use Rattle.semantics.specs.Denotation.{streams_of}
use Rattle.automaton.specs.States.{Net}
use Rattle.epoch_laws.specs.Closing.{Stores}
use Rattle.epoch_draft.specs.Agenda.{AreTurns}
use Rattle.stream_readers.specs.Readers.{AreReadersOf}
use Rattle.epoch_draft.specs.Deriving.{DrawnUpTo, news_of}
use Rattle.epoch_draft.specs.Drafts.{DraftFits}
use Rattle.epoch_draft.specs.declared.drawing.Drawing.{Drawing}
use Rattle.epoch_draft.proofs.StoreLemmas.{drawn_same, held_same, stored_same, typed_has}
use Rattle.epoch_draft.specs.EpochWork.{draw_work, pairs_work, taking_work}
use Rattle.epoch_draft.specs.Held.{held}
use Rattle.epoch_draft.specs.Led.{AreLed}
use Rattle.epoch_draft.specs.Stores.{HasStores}
use Rattle.epoch_draft.specs.Takes.{takes_work}
use Rattle.epoch_draft.proofs.WatchLemmas.{watches_same}
use Rattle.epoch_engine.specs.Batches.{ArePrinted}
use Rattle.epoch_engine.proofs.EngineLemmas.{opened_streams}
use Rattle.epoch_engine.proofs.closing.draw_epoch.Goals as goal

pub draw-requires-clause-touched : goal.draw-requires-clause-touched
draw-requires-clause-touched g c = opened_streams c.args.epoch.now.tuples c.args.epoch.now.touched c.as_slice-touched.result.now c.requires.running.touched c.as_slice-touched.ensures

pub draw-requires-clause-can_read : goal.draw-requires-clause-can_read
draw-requires-clause-can_read g c =
    let plan = c.args.plan.now in
    let is = c.requires.running.plan_is in
    record {
      readers = subst (λ (net : Net). AreReadersOf net c.in-Some.readers.now) (sym c.network.ensures.value) c.in-Some.ensures;
      turns = subst (λ (net : Net). AreTurns net plan.layout.order (length plan.layout.kinds) plan.turns) (sym c.network.ensures.value) is.turns;
      led = subst (λ (net : Net). AreLed net c.args.holdings.now.keys c.args.holdings.now.stores) (sym c.network.ensures.value) c.requires.led;
    }

pub make_room-requires-clause-fits : goal.make_room-requires-clause-fits
make_room-requires-clause-fits g c =
    let fits = c.in_ok-draw.ensures.drawn.fits in
    let draft = c.draw.new.drawing.draft in
    let stores : ℕ = length c.args.holdings.now.stores in
    subst (λ (d : Drawing). DraftFits (length d.draft.made) stores d.draft) (sym c.list.ensures.same)
    (subst (λ (m : ℕ). DraftFits m stores draft) (sym fits.made) (subst (λ (m : ℕ). DraftFits (length c.args.plan.now.layout.kinds) m draft) (ap length c.network.ensures.value ∙ sym c.requires.running.can_draw.typed.as_many) fits))

pub returns-clause-drawn : goal.returns-clause-drawn
returns-clause-drawn g c =
    let plan = c.args.plan.now in
    let opened = c.args.epoch.now.tuples in
    let draft = c.draw.new.drawing.draft in
    let pairs = c.draw.new.drawing.pairs in
    subst (λ (d : Drawing). DrawnUpTo plan.merged plan.layout c.make_room.new.stores opened plan.layout.order d.draft d.pairs) (sym c.list.ensures.same)
    (drawn_same plan.merged plan.layout c.args.holdings.now.stores c.make_room.new.stores opened plan.layout.order draft pairs c.make_room.ensures.same
    (subst (λ (net : Net). DrawnUpTo net plan.layout c.args.holdings.now.stores opened plan.layout.order draft pairs) c.network.ensures.value c.in_ok-draw.ensures.drawn))

-- the streams are those of what was drawn
pub returns-clause-listed : goal.returns-clause-listed
returns-clause-listed g c =
    let outs = c.args.plan.now.layout.outs in
    let streams = c.list.new.self.streams in subst (λ (d : Drawing). ArePrinted outs d.draft.made streams) (sym c.list.ensures.same) c.in_ok-list.ensures.listed

pub returns-in_err-draw-clause-same : goal.returns-in_err-draw-clause-same
returns-in_err-draw-clause-same g c = stored_same c.args.holdings.now.stores

-- what the pairs take out
pub returns-clause-takes : goal.returns-clause-takes
returns-clause-takes g c =
    let plan = c.args.plan.now in
    let opened = c.args.epoch.now.tuples in
    let draft = c.draw.new.drawing.draft in
    let pairs = c.draw.new.drawing.pairs in
    let order = plan.layout.order in
    let after = held c.make_room.new.stores in
    subst (λ (d : Drawing). takes_work plan.merged (news_of opened d.draft.made order) after d.pairs ≤ taking_work plan.merged plan.layout after (streams_of opened)) (sym c.list.ensures.same)
    (subst (λ (st : Stores). takes_work plan.merged (news_of opened draft.made order) st pairs ≤ taking_work plan.merged plan.layout st (streams_of opened)) (held_same c.args.holdings.now.stores c.make_room.new.stores c.make_room.ensures.same)
    (subst (λ (net : Net). pairs_work net order c.args.holdings.now.stores opened draft.made pairs ≤ taking_work net plan.layout (held c.args.holdings.now.stores) (streams_of opened)) c.network.ensures.value c.in_ok-draw.ensures.takes))

-- all tests are those of the drawing
pub returns-in_err-draw-clause-ticks : goal.returns-in_err-draw-clause-ticks
returns-in_err-draw-clause-ticks g c =
    let plan = c.args.plan.now in
    subst (λ (net : Net). c.draw.new.steps ≤ c.args.steps.now + draw_work net plan.layout (held c.args.holdings.now.stores) (streams_of c.args.epoch.now.tuples)) c.network.ensures.value c.draw.ensures.ticks

pub returns-in_err-list-clause-ticks : goal.returns-in_err-list-clause-ticks
returns-in_err-list-clause-ticks g c =
    let plan = c.args.plan.now in
    subst (λ (net : Net). c.draw.new.steps ≤ c.args.steps.now + draw_work net plan.layout (held c.args.holdings.now.stores) (streams_of c.args.epoch.now.tuples)) c.network.ensures.value c.draw.ensures.ticks

pub returns-in_err-make_room-clause-ticks : goal.returns-in_err-make_room-clause-ticks
returns-in_err-make_room-clause-ticks g c =
    let plan = c.args.plan.now in
    subst (λ (net : Net). c.draw.new.steps ≤ c.args.steps.now + draw_work net plan.layout (held c.args.holdings.now.stores) (streams_of c.args.epoch.now.tuples)) c.network.ensures.value c.draw.ensures.ticks

pub returns-clause-ticks : goal.returns-clause-ticks
returns-clause-ticks g c =
    let plan = c.args.plan.now in
    subst (λ (net : Net). c.draw.new.steps ≤ c.args.steps.now + draw_work net plan.layout (held c.args.holdings.now.stores) (streams_of c.args.epoch.now.tuples)) c.network.ensures.value c.draw.ensures.ticks

-- the stores are the network's
pub make_room-requires-clause-stores : goal.make_room-requires-clause-stores
make_room-requires-clause-stores g c =
    let plan = c.args.plan.now in
    subst (λ (net : Net). HasStores net c.args.holdings.now.stores) (sym c.network-2.ensures.value) (typed_has plan.merged plan.layout.kinds c.args.holdings.now.stores c.requires.running.can_draw.typed)

-- the stores have the same instances
pub returns-clause-watches : goal.returns-clause-watches
returns-clause-watches g c = watches_same c.args.holdings.now.deadlines c.args.holdings.now.stores c.make_room.new.stores c.make_room.ensures.same c.requires.watches

pub returns-in_err-make_room-clause-watches : goal.returns-in_err-make_room-clause-watches
returns-in_err-make_room-clause-watches g c = watches_same c.args.holdings.now.deadlines c.args.holdings.now.stores c.make_room.new.stores c.make_room.ensures.same c.requires.watches
