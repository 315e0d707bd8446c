use Rattle.std.proofs.Common.{◌∙◌, sym, subst, ℕ, ◌<◌, ◌+◌, length, get_or, map, List}
use Rattle.std.specs.Prelude.{Contains, None}
use Rattle.std.specs.List.{All}
use Rattle.std.proofs.lemmas.List.Elements.{All-contains_itself, All-weaker}
use Rattle.epoch_draft.specs.Deriving.{news_of}
use Rattle.epoch_draft.specs.Purging.{AreUsedIn, ForgetUnusedIn}
use Rattle.epoch_draft.specs.declared.draft.Pair.{Pair}
use Rattle.epoch_draft.proofs.PairLemmas.{contains_map}
use Rattle.epoch_draft.proofs.SettleLemmas.{closed, pairs_below}
use Rattle.epoch_draft.proofs.StayLemmas.{stay_trans}
use Rattle.epoch_draft.proofs.WatchLemmas.{purged_each, watches_same}
use Rattle.epoch_draft.proofs.settling.settle.Goals as goal

pub forget_paired-requires : goal.forget_paired-requires
forget_paired-requires g c =
    let net = c.args.closing.now.network.now in
    let below = pairs_below net c.args.closing.now.layout.now c.args.stores.now c.args.opened.now c.args.drawing.now.draft c.args.drawing.now.pairs c.requires.can_draw c.requires.drawn in
    subst (λ (m : ℕ). All (λ (p : Pair). p.state < m) c.as_slice.result.now) (sym (c.purge_due.ensures.purged.same.as_many ∙ c.step.ensures.settled.same.as_many ∙ c.requires.can_draw.typed.as_many))
    (subst (All (λ (p : Pair). p.state < length net)) (sym (c.as_slice.ensures ∙ c.step.ensures.pairs)) below)

-- the stores whose deadlines passed were purged, and then those of the pairs forgot keys
pub returns-clause-closed : goal.returns-clause-closed
returns-clause-closed g c =
    let time = c.args.closing.now.time + 1 in
    let mid = c.step.new.stores in
    let new = c.forget_paired.new.stores in
    closed time c.args.closing.now.network.now c.args.closing.now.layout.now.kinds c.args.stores.now mid new (news_of c.args.opened.now c.args.drawing.now.draft.made c.args.closing.now.layout.now.order) c.requires.can_draw.typed c.step.ensures.settled
    (purged_each time (map (λ (p : Pair). p.state) c.as_slice.result.now) mid c.purge_due.new.stores new c.purge_due.ensures.purged c.forget_paired.ensures)

-- the deadlines are those of what is left
pub returns-clause-watches : goal.returns-clause-watches
returns-clause-watches g c =
    watches_same c.purge_due.new.deadlines c.purge_due.new.stores c.forget_paired.new.stores c.forget_paired.ensures.same c.purge_due.ensures.watches

-- where a tuple was listed, the keys that are ready are used
pub returns-clause-used : goal.returns-clause-used
returns-clause-used g c =
    let pairs = c.args.drawing.now.pairs in
    let new = c.forget_paired.new.stores in
    let state = λ (p : Pair). p.state in
    let forgot = subst (λ (ps : List Pair). ForgetUnusedIn (map (λ (p : Pair). p.state) ps) c.purge_due.new.stores new) (c.as_slice.ensures ∙ c.step.ensures.pairs) c.forget_paired.ensures in
    All-weaker (Contains pairs) (λ (p : Pair). AreUsedIn (get_or new p.state None)) (λ p there. forgot.used p.state (contains_map state pairs p there)) pairs (All-contains_itself pairs)

-- and where a store was purged, those of the instances that are left
pub returns-clause-stay : goal.returns-clause-stay
returns-clause-stay g c =
    let old = c.args.stores.now in
    let mid = c.purge_due.new.stores in
    let new = c.forget_paired.new.stores in stay_trans old mid new (stay_trans old c.step.new.stores mid c.step.ensures.stay c.purge_due.ensures.purged.stay) c.forget_paired.ensures.stay
