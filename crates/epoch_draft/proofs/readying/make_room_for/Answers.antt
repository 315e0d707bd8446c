use Rattle.std.proofs.Common.{◌≡◌, ◌∙◌, sym, refl, subst, []}
use Rattle.std.specs.Prelude.{Option}
use Rattle.std.specs.List.{All}
use Rattle.std.proofs.lemmas.List.Elements.{All-contains_itself, All-head, All-nil, All-tail}
use Rattle.instances.specs.Keys.{BindingFits, Key}
use Rattle.instances.specs.declared.instance.Instance.{Instance}
use Rattle.binding_index.specs.Stores.{key_of, ready_of}
use Rattle.epoch_draft.specs.Readying.{HasRoom}
use Rattle.epoch_draft.specs.Led.{HasKeyOf}
use Rattle.epoch_draft.proofs.LeadLemmas.{on_none, on_trans}
use Rattle.epoch_draft.proofs.MeetLemmas.{head_none}
use Rattle.epoch_draft.proofs.ReadyLemmas.{more_trans, room_more}
use Rattle.epoch_draft.proofs.readying.make_room_for.Goals as goal

pub loop-instance-init : goal.loop-instance-init
loop-instance-init c = record {
  keys = c.requires.fits;
  room = λ ready more room. room;
  last = tt;
  more = All-contains_itself (ready_of c.args.store.now);
  condition = refl;
  key = refl;
  same = refl;
  found = c.requires.key;
  led = c.requires.led;
  leads = on_none c.args.keys.now;
}

pub make_room_of-requires : goal.make_room_of-requires
make_room_of-requires c =
    let was = c.loop-instance.invariant in
    let fits = λ (i : Instance). BindingFits (key_of c.loop-instance.store) i.tuple in
    record {
      within = c.requires.within;
      fits = All-head fits c.in-Some.instance.now c.next.new.self (subst (All fits) c.in-Some.ensures.rest was.keys);
      key = was.found;
      last = was.last;
      led = was.led;
    }

-- room for one more
pub loop-instance-preserved : goal.loop-instance-preserved
loop-instance-preserved c =
    let was = c.loop-instance.invariant in
    let i = c.in-Some.instance.now in
    let rest = c.next.new.self in
    let old = c.loop-instance.store in
    let new = c.make_room_of.new.store in
    let fits = λ (k : Option Key) (i : Instance). BindingFits k i.tuple in
    let keys = subst (All (fits (key_of old))) c.in-Some.ensures.rest was.keys in
    let same = c.make_room_of.ensures.key in
    record {
      keys = subst (λ (k : Option Key). All (fits k) rest) (sym same) (All-tail (fits (key_of old)) i rest keys);
      room = λ ready more room.
          let before = more_trans (ready_of old) (ready_of new) ready c.make_room_of.ensures.more more in
          let one : HasRoom (key_of old) (ready_of new) i = record { fits = All-head (fits (key_of old)) i rest keys; is_ready = c.in_ok-make_room_of.ensures.room } in
          let all = room_more (key_of old) (ready_of new) ready i rest more one (subst (λ (k : Option Key). All (HasRoom k ready) rest) same room) in
          subst (λ (k : Option Key). All (HasRoom k ready) c.args.instances) (sym same) (was.room ready before (subst (All (HasRoom (key_of old) ready)) (sym c.in-Some.ensures.rest) all));
      last = subst (λ (k : Option Key). HasRoom k (ready_of new) i) (sym same) (record { fits = All-head (fits (key_of old)) i rest keys; is_ready = c.in_ok-make_room_of.ensures.room });
      more = more_trans (ready_of c.args.store.now) (ready_of old) (ready_of new) was.more c.make_room_of.ensures.more;
      condition = c.make_room_of.ensures.condition ∙ was.condition;
      key = same ∙ was.key;
      same = c.make_room_of.ensures.same ∙ was.same;
      found = subst (λ (k : Option Key). HasKeyOf c.args.network.now c.args.number k) (sym same) was.found;
      led = c.make_room_of.ensures.led;
      leads = on_trans c.args.keys.now c.loop-instance.keys c.make_room_of.new.keys was.leads c.make_room_of.ensures.leads;
    }

-- want of memory leaves what leads to the state
pub returns-in_err-make_room_of-clause-leads : goal.returns-in_err-make_room_of-clause-leads
returns-in_err-make_room_of-clause-leads c = on_trans c.args.keys.now c.loop-instance.keys c.make_room_of.new.keys c.loop-instance.invariant.leads c.make_room_of.ensures.leads

pub returns-in_err-make_room_of-clause-more : goal.returns-in_err-make_room_of-clause-more
returns-in_err-make_room_of-clause-more c = more_trans (ready_of c.args.store.now) (ready_of c.loop-instance.store) (ready_of c.make_room_of.new.store) c.loop-instance.invariant.more c.make_room_of.ensures.more

pub returns-clause-room : goal.returns-clause-room
returns-clause-room c =
    let store = c.loop-instance.store in
    let none : c.loop-instance.instances ≡ [] = head_none c.loop-instance.instances c.in_default.ensures.first in
    c.loop-instance.invariant.room (ready_of store) (All-contains_itself (ready_of store)) (subst (All (HasRoom (key_of store) (ready_of store))) (sym none) (All-nil (HasRoom (key_of store) (ready_of store))))
