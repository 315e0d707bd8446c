use Rattle.std.proofs.Common.{◌≡◌, ◌∙◌, ap, sym, subst, ℕ, ◌+◌, ◌<◌, ◌≤◌, length, get_or, take, List, []}
use Rattle.std.specs.Prelude.{Contains}
use Rattle.std.specs.List.{All}
use Rattle.epoch_draft.specs.Held.{held}
use Rattle.epoch_draft.specs.Settling.{AreLinked, AreTaken, PairSuits, tuples_in}
use Rattle.epoch_draft.specs.Takes.{takes_work}
use Rattle.epoch_draft.specs.declared.draft.Pair.{Pair}
use Rattle.epoch_draft.proofs.MarkLemmas.{all_below}
use Rattle.epoch_draft.proofs.ReadyLemmas.{room_same}
use Rattle.epoch_draft.proofs.SettleLemmas.{pairs_suit, settled, takes_same}
use Rattle.epoch_draft.proofs.StayLemmas.{linked_stay, stay_trans, taken_stay}
use Rattle.epoch_draft.proofs.StoreLemmas.{same_has, typed_has}
use Rattle.epoch_draft.proofs.DraftLemmas.{linked_fits}
use Rattle.epoch_draft.proofs.WatchLemmas.{watches_taken}
use Rattle.epoch_draft.proofs.settling.step.Goals as goal

pub take_all-requires-clause-stores : goal.take_all-requires-clause-stores
take_all-requires-clause-stores g c = typed_has c.args.closing.now.network.now c.args.closing.now.layout.now.kinds c.args.stores.now c.requires.can_draw.typed

pub take_all-requires-clause-pairs : goal.take_all-requires-clause-pairs
take_all-requires-clause-pairs g c =
    let opened = c.args.opened.now in
    let draft = c.args.drawing.now.draft in
    subst (All (PairSuits c.args.closing.now.network.now (tuples_in opened draft.made) (length opened) (held c.args.stores.now))) (sym c.as_slice.ensures)
    (pairs_suit c.args.closing.now.network.now c.args.closing.now.layout.now c.args.stores.now opened draft c.args.drawing.now.pairs c.requires.can_draw c.requires.drawn)

pub link_all-requires-clause-stores : goal.link_all-requires-clause-stores
link_all-requires-clause-stores g c =
    let net = c.args.closing.now.network.now in same_has net c.args.stores.now c.take_all.new.stores c.take_all.ensures.taken.same (typed_has net c.args.closing.now.layout.now.kinds c.args.stores.now c.requires.can_draw.typed)

-- what is taken out is watched no more, and the rest as before
pub link_all-requires-clause-watches : goal.link_all-requires-clause-watches
link_all-requires-clause-watches g c =
    watches_taken c.args.closing.now.network.now (tuples_in c.args.opened.now c.args.drawing.now.draft.made) c.as_slice.result.now c.args.deadlines.now c.args.stores.now c.take_all.new.stores c.take_all.ensures.taken c.requires.watches

pub link_all-requires-clause-numbers : goal.link_all-requires-clause-numbers
link_all-requires-clause-numbers g c =
    let fits = c.requires.drawn.fits in
    subst (λ (m : ℕ). All (λ n. n < m) c.as_slice-2.result.now) (fits.reached_below ∙ sym c.requires.can_draw.typed.as_many ∙ sym c.take_all.ensures.taken.same.as_many)
    (all_below c.args.drawing.now.draft.reached fits.reached c.as_slice-2.result.now c.as_slice-2.ensures)

pub link_all-requires-clause-beads : goal.link_all-requires-clause-beads
link_all-requires-clause-beads g c =
    let fits = c.requires.drawn.fits in
    subst (λ (m : ℕ). All (λ n. n < m) c.as_slice-2.result.now) (fits.reached_below ∙ sym fits.beads) (all_below c.args.drawing.now.draft.reached fits.reached c.as_slice-2.result.now c.as_slice-2.ensures)

pub link_all-requires-clause-once : goal.link_all-requires-clause-once
link_all-requires-clause-once g c =
    let fits = c.requires.drawn.fits in
    subst (λ (ns : List ℕ). (place : ℕ) → place < length ns → Contains (take place ns) (get_or ns place 0) → ⊥) (sym c.as_slice-2.ensures) fits.reached.once

pub link_all-requires-clause-room : goal.link_all-requires-clause-room
link_all-requires-clause-room g c = room_same c.args.stores.now c.take_all.new.stores c.args.drawing.now.draft.beads c.take_all.ensures.taken.same c.take_all.ensures.taken.ready c.requires.room

pub returns-clause-ticks : goal.returns-clause-ticks
returns-clause-ticks g c =
    let net = c.args.closing.now.network.now in
    let opened = c.args.opened.now in
    let draft = c.args.drawing.now.draft in
    let stores = c.args.stores.now in
    let pairs = c.args.drawing.now.pairs in
    let work = ap (takes_work net (tuples_in opened draft.made) (held stores)) c.as_slice.ensures ∙ takes_same net c.args.closing.now.layout.now stores opened draft pairs c.requires.can_draw c.requires.drawn in
    subst (λ (n : ℕ). c.take_all.new.steps ≤ c.args.steps.now + n) work c.take_all.ensures.ticks

pub returns-clause-settled : goal.returns-clause-settled
returns-clause-settled g c =
    let net = c.args.closing.now.network.now in
    let opened = c.args.opened.now in
    let draft = c.args.drawing.now.draft in
    settled net c.args.closing.now.layout.now c.args.stores.now opened draft c.args.drawing.now.pairs c.requires.can_draw c.requires.drawn c.take_all.new.stores c.link_all.new.stores
    (subst (λ (ps : List Pair). AreTaken net (tuples_in opened draft.made) ps c.args.stores.now c.take_all.new.stores) c.as_slice.ensures c.take_all.ensures.taken)
    (subst (λ (ns : List ℕ). AreLinked ns draft.beads c.take_all.new.stores c.link_all.new.stores) c.as_slice-2.ensures c.link_all.ensures.linked)

pub returns-clause-fits : goal.returns-clause-fits
returns-clause-fits g c =
    linked_fits (length c.args.closing.now.layout.now.kinds) (length c.args.closing.now.network.now) c.args.drawing.now.draft c.link_all.new.beads c.requires.drawn.fits c.link_all.ensures.as_many
    (subst (λ (ns : List ℕ). (n : ℕ) → (Contains ns n → ⊥) → get_or c.link_all.new.beads n [] ≡ get_or c.args.drawing.now.draft.beads n []) c.as_slice-2.ensures c.link_all.ensures.others)

-- the keys of all instances stay ready
pub returns-clause-stay : goal.returns-clause-stay
returns-clause-stay g c =
    let old = c.args.stores.now in
    let mid = c.take_all.new.stores in
    let new = c.link_all.new.stores in
    let beads = c.args.drawing.now.draft.beads in
    let taken = c.take_all.ensures.taken in
    stay_trans old mid new (taken_stay c.args.closing.now.network.now (tuples_in c.args.opened.now c.args.drawing.now.draft.made) c.as_slice.result.now old mid taken)
    (linked_stay c.as_slice-2.result.now beads mid new c.link_all.ensures.linked (room_same old mid beads taken.same taken.ready c.requires.room))
