use Rattle.std.proofs.Common.{arith}
use Rattle.epoch_draft.specs.Deriving.{DrawnUpTo}
use Rattle.epoch_draft.specs.Readying.{HaveKeys}
use Rattle.epoch_draft.proofs.Lists.{on_ok}
use Rattle.epoch_draft.proofs.ReadyLemmas.{beads_have_keys}
use Rattle.epoch_draft.proofs.making.draw.Goals as goal
use Rattle.epoch_draft.specs.Held.{held}
use Rattle.epoch_draft.proofs.EpochLemmas.{heard_within}

pub derive-requires-clause-takes : goal.derive-requires-clause-takes
derive-requires-clause-takes g c = c.in_ok-meet_opened.ensures.takes

pub returns-clause-keys : goal.returns-clause-keys
returns-clause-keys g c =
    let net = c.args.stored.now.network.now in
    let layout = c.args.stored.now.layout.now in
    let stores = c.args.stored.now.stores.now in
    let opened = c.args.opened.now in
    let draft = c.derive.new.drawing.draft in
    let pairs = c.derive.new.drawing.pairs in
    on_ok c.derive.result (DrawnUpTo net layout stores opened layout.order draft pairs) (HaveKeys stores draft.beads) (beads_have_keys net layout stores opened c.requires.can_draw layout.order draft pairs) c.derive.ensures.drawn

-- no more is tested than the tuples that are touched
pub returns-in_err-meet_opened-clause-ticks : goal.returns-in_err-meet_opened-clause-ticks
returns-in_err-meet_opened-clause-ticks g c =
    let heard = heard_within c.args.stored.now.network.now c.args.stored.now.layout.now (held c.args.stored.now.stores.now) c.args.opened.now c.args.touched.now c.requires.touched c.requires.can_draw.as_many in
    let one = c.meet_opened.ensures.ticks in omega (arith, heard, one)

-- and those that are derived
pub returns-clause-ticks : goal.returns-clause-ticks
returns-clause-ticks g c =
    let heard = heard_within c.args.stored.now.network.now c.args.stored.now.layout.now (held c.args.stored.now.stores.now) c.args.opened.now c.args.touched.now c.requires.touched c.requires.can_draw.as_many in
    let one = c.meet_opened.ensures.ticks in
    let two = c.derive.ensures.ticks in omega (arith, heard, one, two)
