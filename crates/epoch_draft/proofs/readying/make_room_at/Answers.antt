use Rattle.std.proofs.Common.{◌∙◌, sym, ap, subst, ℕ, ◌<◌, [], List, length, get_or, arith}
use Rattle.std.specs.Prelude.{Contains, None, Option}
use Rattle.std.specs.List.{All}
use Rattle.std.proofs.lemmas.List.Elements.{All-get_or}
use Rattle.std.proofs.lemmas.Option.{get_or_from_slice_get}
use Rattle.instances.specs.Keys.{BindingFits}
use Rattle.instances.specs.declared.instance.Instance.{Instance}
use Rattle.binding_index.specs.Leads.{ready_in}
use Rattle.binding_index.specs.declared.store.Store.{Store}
use Rattle.epoch_draft.specs.Held.{instances_in, key_in, shape_of}
use Rattle.epoch_draft.specs.Led.{HasKeyOf, LeadTo}
use Rattle.epoch_draft.specs.Readying.{HaveRoomIn}
use Rattle.epoch_draft.proofs.LeadLemmas.{lead_has, led_more}
use Rattle.epoch_draft.proofs.Lists.{taken_all}
use Rattle.epoch_draft.proofs.ReadyLemmas.{readied_more, readied_none, stored_set}
use Rattle.epoch_draft.proofs.StoreLemmas.{same_has, same_key}
use Rattle.epoch_draft.proofs.readying.make_room_at.Goals as goal

pub loop-number-init : goal.loop-number-init
loop-number-init c = record { readied = readied_none c.args.beads.now c.args.stores.now; led = c.requires.led }

pub make_room_in-requires : goal.make_room_in-requires
make_room_in-requires c =
    let n = get_or c.args.numbers.now c.loop-number.number-index 0 in
    let old = c.args.stores.now in
    let now = c.loop-number.stores in
    let beads = get_or_from_slice_get c.args.beads.now n c.get.result.now [] c.get.ensures in
    let slot = get_or_from_slice_get now n c.get_mut.result.now None c.get_mut.ensures.value in
    let same = c.loop-number.invariant.readied.same.same in
    let below = All-get_or (λ n. n < length old) c.args.numbers.now c.loop-number.number-index 0 c.loop-number-test.true c.requires.within in
    let many = c.requires.stores.as_many in
    record {
      within = omega (arith, below, many);
      fits =
          subst (All (λ (i : Instance). BindingFits (key_in c.get_mut.result.now) i.tuple)) beads
          (subst (λ k. All (λ (i : Instance). BindingFits k i.tuple) (get_or c.args.beads.now n [])) (sym (same_key old now same n) ∙ ap key_in slot) (c.requires.keys n));
      key = subst (λ (o : Option Store). HasKeyOf c.args.network.now n (key_in o)) slot (lead_has c.args.network.now n now (same_has c.args.network.now old now same c.requires.stores));
      led = subst (LeadTo c.args.network.now c.loop-number.keys n) slot (c.loop-number.invariant.led.led n);
    }

-- want of memory leaves all instances
pub returns-in_err-make_room_in-clause-same : goal.returns-in_err-make_room_in-clause-same
returns-in_err-make_room_in-clause-same c =
    let n = get_or c.args.numbers.now c.loop-number.number-index 0 in
    let now = c.loop-number.stores in
    let slot = sym (get_or_from_slice_get now n c.get_mut.result.now None c.get_mut.ensures.value) in
    let below = All-get_or (λ n. n < length c.args.stores.now) c.args.numbers.now c.loop-number.number-index 0 c.loop-number-test.true c.requires.within in
    let same = c.loop-number.invariant.readied.same.same.as_many in
    stored_set c.args.stores.now now n c.make_room_in.new.slot (omega (arith, below, same)) c.loop-number.invariant.readied.same (c.make_room_in.ensures.shape ∙ ap shape_of slot) (c.make_room_in.ensures.instances ∙ ap instances_in slot)

-- and what is ready leads to its state
pub returns-in_err-make_room_in-clause-led : goal.returns-in_err-make_room_in-clause-led
returns-in_err-make_room_in-clause-led c =
    let n = get_or c.args.numbers.now c.loop-number.number-index 0 in
    let now = c.loop-number.stores in
    let slot = sym (get_or_from_slice_get now n c.get_mut.result.now None c.get_mut.ensures.value) in
    let below = All-get_or (λ n. n < length c.args.stores.now) c.args.numbers.now c.loop-number.number-index 0 c.loop-number-test.true c.requires.within in
    let same = c.loop-number.invariant.readied.same.same.as_many in
    led_more c.args.network.now c.loop-number.keys c.make_room_in.new.keys now n c.make_room_in.new.slot (omega (arith, below, same)) c.make_room_in.ensures.leads
    c.make_room_in.ensures.led (subst (λ (o : Option Store). All (Contains (ready_in c.make_room_in.new.slot)) (ready_in o)) slot c.make_room_in.ensures.more) (c.make_room_in.ensures.shape ∙ ap shape_of slot) (c.make_room_in.ensures.instances ∙ ap instances_in slot)
    c.loop-number.invariant.led

-- one state more
pub loop-number-preserved : goal.loop-number-preserved
loop-number-preserved c =
    let ns = c.args.numbers.now in
    let i = c.loop-number.number-index in
    let n = get_or ns i 0 in
    let now = c.loop-number.stores in
    let slot = sym (get_or_from_slice_get now n c.get_mut.result.now None c.get_mut.ensures.value) in
    let beads = sym (get_or_from_slice_get c.args.beads.now n c.get.result.now [] c.get.ensures) in
    let below = All-get_or (λ n. n < length c.args.stores.now) ns i 0 c.loop-number-test.true c.requires.within in
    let same = c.loop-number.invariant.readied.same.same.as_many in
    record {
      readied =
          readied_more ns i c.args.beads.now c.args.stores.now now c.make_room_in.new.slot c.loop-number-test.true (omega (arith, below, same)) (c.make_room_in.ensures.shape ∙ ap shape_of slot)
          (c.make_room_in.ensures.instances ∙ ap instances_in slot) (subst (HaveRoomIn c.make_room_in.new.slot) beads c.in_ok-make_room_in.ensures.room) c.loop-number.invariant.readied;
      led =
          led_more c.args.network.now c.loop-number.keys c.make_room_in.new.keys now n c.make_room_in.new.slot (omega (arith, below, same)) c.make_room_in.ensures.leads
          c.make_room_in.ensures.led (subst (λ (o : Option Store). All (Contains (ready_in c.make_room_in.new.slot)) (ready_in o)) slot c.make_room_in.ensures.more) (c.make_room_in.ensures.shape ∙ ap shape_of slot)
          (c.make_room_in.ensures.instances ∙ ap instances_in slot) c.loop-number.invariant.led;
    }

pub returns-clause-room : goal.returns-clause-room
returns-clause-room c =
    let stores = c.loop-number.stores in
    let beads = c.args.beads.now in
    subst (λ (ns : List ℕ). (n : ℕ) → Contains ns n → HaveRoomIn (get_or stores n None) (get_or beads n [])) (taken_all c.args.numbers.now c.loop-number.number-index c.loop-number-test.false) c.loop-number.invariant.readied.room
