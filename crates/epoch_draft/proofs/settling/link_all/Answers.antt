use Rattle.std.proofs.Common.{◌≡◌, ◌∙◌, sym, subst, ◌<◌, length, get_or, take, arith}
use Rattle.std.specs.Prelude.{None}
use Rattle.std.proofs.lemmas.List.Elements.{All-get_or}
use Rattle.std.proofs.lemmas.Option.{get_or_from_slice_get}
use Rattle.instances.specs.Bounds.{AreAliveUntil}
use Rattle.epoch_draft.proofs.Lists.{some_is}
use Rattle.epoch_draft.proofs.SettleLemmas.{linked_more, linked_none, linked_room}
use Rattle.epoch_draft.proofs.StoreLemmas.{same_has}
use Rattle.epoch_draft.proofs.WatchLemmas.{watches_linked}
use Rattle.epoch_draft.proofs.settling.link_all.Goals as goal

pub loop-number-init : goal.loop-number-init
loop-number-init c = record { linked = linked_none c.args.beads.now c.args.stores.now; watches = c.requires.watches }

pub lower_at-requires-clause-number : goal.lower_at-requires-clause-number
lower_at-requires-clause-number c =
    let below = All-get_or (λ n. n < length c.args.stores.now) c.args.numbers.now c.loop-number.number-index 0 c.loop-number-test.true c.requires.numbers in
    let many = c.requires.stores.as_many in omega (arith, below, many)

pub lower_at-requires-clause-deadlines : goal.lower_at-requires-clause-deadlines
lower_at-requires-clause-deadlines c =
    let below = All-get_or (λ n. n < length c.args.stores.now) c.args.numbers.now c.loop-number.number-index 0 c.loop-number-test.true c.requires.numbers in
    let many = c.loop-number.invariant.linked.linked.same.as_many in
    let same = c.loop-number.invariant.watches.as_many in omega (arith, below, many, same)

pub link_in-requires : goal.link_in-requires
link_in-requires c =
    linked_room (take c.loop-number.number-index c.args.numbers.now) (get_or c.args.numbers.now c.loop-number.number-index 0) c.args.beads.now c.loop-number.beads c.args.stores.now c.loop-number.stores c.get_mut.result.now
    c.get_mut-in-loop-number.result.now (c.requires.once c.loop-number.number-index c.loop-number-test.true) c.get_mut.ensures.value c.get_mut-in-loop-number.ensures.value c.loop-number.invariant.linked c.requires.room

-- one state more
pub loop-number-preserved : goal.loop-number-preserved
loop-number-preserved c =
    let ns = c.args.numbers.now in
    let i = c.loop-number.number-index in
    let n = get_or ns i 0 in
    let lt = c.loop-number-test.true in
    let stores = c.loop-number.stores in
    let chain = c.get_mut-in-loop-number.result.now in
    let was = c.loop-number.invariant in
    let same = was.linked.linked.same in
    let below = All-get_or (λ n. n < length c.args.stores.now) ns i 0 lt c.requires.numbers in
    let chain_is : c.get.result.now ≡ chain = some_is c.get.result.now chain (sym c.get.ensures ∙ c.get_mut-in-loop-number.ensures.value) in
    let watched : n < length c.loop-number.deadlines = let many = same.as_many in let as_many = was.watches.as_many in omega (arith, below, many, as_many) in
    record {
      linked =
          linked_more ns i c.args.beads.now c.loop-number.beads c.args.stores.now stores c.get_mut.result.now c.link_in.new.slot chain c.link_in.new.beads lt below (All-get_or (λ n. n < length c.args.beads.now) ns i 0 lt c.requires.beads)
          (c.requires.once i lt) c.get_mut.ensures.value c.get_mut-in-loop-number.ensures.value c.link_in.ensures.instances c.link_in.ensures.idle c.link_in.ensures.shape c.link_in.ensures.ready was.linked;
      watches =
          watches_linked c.args.network.now n c.loop-number.deadlines c.lower_at.new.deadlines stores c.get_mut.result.now c.link_in.new.slot chain watched (same_has c.args.network.now c.args.stores.now stores same c.requires.stores)
          (get_or_from_slice_get stores n c.get_mut.result.now None c.get_mut.ensures.value) c.link_in.ensures.shape c.link_in.ensures.instances c.lower_at.ensures.lowered c.lower_at.ensures.earlier
          (λ w at. subst (AreAliveUntil (get_or c.lower_at.new.deadlines n 0) w.choose) chain_is (c.lower_at.ensures.until w at)) was.watches;
    }
