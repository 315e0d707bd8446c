use Rattle.std.proofs.Common.{◌≡◌, ◌∙◌, sym, subst, ◌++◌, ◌∷◌, List}
use Rattle.std.specs.Prelude.{Option}
use Rattle.std.specs.List.{All}
use Rattle.std.proofs.lemmas.List.Elements.{All-head, All-tail}
use Rattle.event_types.specs.declared.value.Value.{Value}
use Rattle.instances.specs.Keys.{Key}
use Rattle.binding_index.specs.Stores.{instances_of, key_of, ready_of}
use Rattle.epoch_draft.specs.Readying.{HasRoom}
use Rattle.epoch_draft.proofs.SettleLemmas.{cons_none, link_more}
use Rattle.epoch_draft.proofs.settling.link.Goals as goal

pub link-requires-clause-fits : goal.link-requires-clause-fits
link-requires-clause-fits c =
    let room = HasRoom (key_of c.loop-bead.store) (ready_of c.loop-bead.store) in
    (All-head room c.in-Some.bead c.unlink.new.self.chain.now (subst (All room) c.in-Some.ensures.here c.loop-bead.invariant.room)).fits

pub link-requires-clause-is_ready : goal.link-requires-clause-is_ready
link-requires-clause-is_ready c =
    let room = HasRoom (key_of c.loop-bead.store) (ready_of c.loop-bead.store) in
    (All-head room c.in-Some.bead c.unlink.new.self.chain.now (subst (All room) c.in-Some.ensures.here c.loop-bead.invariant.room)).is_ready

-- one bead more
pub loop-bead-preserved : goal.loop-bead-preserved
loop-bead-preserved c =
    let bead = c.in-Some.bead in
    let rest = c.unlink.new.self.chain.now in
    let chain = c.loop-bead.walk.chain.now in
    let old = c.loop-bead.store in
    let new = c.link.new.self in
    let here : chain ≡ bead ∷ rest = c.in-Some.ensures.here in
    let room = HasRoom (key_of old) (ready_of old) in
    record {
      instances = link_more (instances_of old) rest (instances_of c.args.store.now ++ c.walk-walk.result.chain.now) (instances_of new) chain bead c.link.ensures.linked here c.loop-bead.invariant.instances;
      room =
          subst (λ (k : Option Key). All (HasRoom k (ready_of new)) rest) (sym c.link.ensures.same_key)
          (subst (λ (vs : List Value). All (HasRoom (key_of old) vs) rest) (sym c.link.ensures.same_ready) (All-tail room bead rest (subst (All room) here c.loop-bead.invariant.room)));
      idle = λ none. absurd (cons_none bead rest (sym here ∙ (c.loop-bead.invariant.idle none).1));
      condition = c.link.ensures.same_condition ∙ c.loop-bead.invariant.condition;
      key = c.link.ensures.same_key ∙ c.loop-bead.invariant.key;
      ready = c.link.ensures.same_ready ∙ c.loop-bead.invariant.ready;
    }
