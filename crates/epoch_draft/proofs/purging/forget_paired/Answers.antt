use Rattle.std.proofs.Common.{◌∙◌, sym, ap, subst, ◌<◌, length, get_or, map, List, arith}
use Rattle.std.specs.Prelude.{None, Option}
use Rattle.std.proofs.lemmas.List.Elements.{All-get_or}
use Rattle.std.proofs.lemmas.Option.{get_or_from_slice_get}
use Rattle.binding_index.specs.declared.store.Store.{Store}
use Rattle.epoch_draft.specs.Held.{instances_in, shape_of}
use Rattle.epoch_draft.specs.Led.{StaysReady}
use Rattle.epoch_draft.specs.Purging.{ForgetUnusedIn}
use Rattle.epoch_draft.specs.declared.draft.Pair.{Pair}
use Rattle.epoch_draft.proofs.Lists.{taken_all}
use Rattle.epoch_draft.proofs.PurgeLemmas.{forget_nowhere, forget_pair}
use Rattle.epoch_draft.proofs.purging.forget_paired.Goals as goal

abbrev nowhere : Pair
nowhere = record { state = 0; stream = 0; place = 0 }

pub loop-pair-init : goal.loop-pair-init
loop-pair-init c = forget_nowhere c.args.stores.now

pub get_mut-requires : goal.get_mut-requires
get_mut-requires c =
    let below = All-get_or (λ (p : Pair). p.state < length c.args.stores.now) c.args.pairs.now c.loop-pair.pair-index nowhere c.loop-pair-test.true c.requires in
    let same = c.loop-pair.invariant.same.same.as_many in omega (arith, below, same)

-- one more store has
pub loop-pair-preserved : goal.loop-pair-preserved
loop-pair-preserved c =
    let pairs = c.args.pairs.now in
    let i = c.loop-pair.pair-index in
    let slot = sym (get_or_from_slice_get c.loop-pair.stores (get_or pairs i nowhere).state c.get_mut.result.now None c.get_mut.ensures.value) in
    forget_pair pairs i nowhere c.args.stores.now c.loop-pair.stores c.forget_unused.new.slot c.loop-pair-test.true (All-get_or (λ (p : Pair). p.state < length c.args.stores.now) pairs i nowhere c.loop-pair-test.true c.requires)
    (c.forget_unused.ensures.same ∙ ap instances_in slot) (c.forget_unused.ensures.shape ∙ ap shape_of slot) c.forget_unused.ensures.used (subst (λ (o : Option Store). StaysReady o c.forget_unused.new.slot) slot c.forget_unused.ensures.stays)
    c.loop-pair.invariant

pub returns : goal.returns
returns c = subst (λ (ps : List Pair). ForgetUnusedIn (map (λ (p : Pair). p.state) ps) c.args.stores.now c.loop-pair.stores) (taken_all c.args.pairs.now c.loop-pair.pair-index c.loop-pair-test.false) c.loop-pair.invariant
