use Rattle.std.proofs.Common.{◌+◌, ◌∙◌, sym, ap, subst}
use Rattle.std.specs.Prelude.{None, Option}
use Rattle.std.proofs.lemmas.Option.{get_or_from_slice_get}
use Rattle.binding_index.specs.declared.store.Store.{Store}
use Rattle.epoch_draft.specs.Held.{shape_of}
use Rattle.epoch_draft.specs.Led.{StaysReady}
use Rattle.epoch_draft.specs.Purging.{alive_in}
use Rattle.epoch_draft.proofs.PurgeLemmas.{left_unborn}
use Rattle.epoch_draft.proofs.WatchLemmas.{fewer, some_all, some_more, some_none}
use Rattle.epoch_draft.proofs.watching.purge_due.Goals as goal

pub loop-number-init : goal.loop-number-init
loop-number-init c = some_none (c.args.time + 1) c.args.deadlines.now c.args.stores.now c.requires

-- one more store is purged
pub loop-number-preserved : goal.loop-number-preserved
loop-number-preserved c =
    let slot = sym (get_or_from_slice_get c.loop-number.stores c.in-Some.number c.get_mut.result.now None c.get_mut.ensures.value) in
    rw c.set.ensures (some_more (c.args.time + 1) c.in-Some.number c.purge-deadline.result c.loop-number.deadlines c.args.stores.now c.loop-number.stores c.purge-deadline.new.slot c.in-Some.ensures.within
    (c.purge-deadline.ensures.purged ∙ left_unborn (c.args.time + 1) c.get_mut.result.now ∙ ap (alive_in (c.args.time + 1)) slot) (c.purge-deadline.ensures.shape ∙ ap shape_of slot) c.purge-deadline.ensures.watched
    (subst (λ (o : Option Store). StaysReady o c.purge-deadline.new.slot) slot c.purge-deadline.ensures.stays) c.loop-number.invariant)

-- its deadline is put off
pub loop-number-smaller : goal.loop-number-smaller
loop-number-smaller c = rw c.set.ensures (fewer (c.args.time + 1) c.in-Some.number c.purge-deadline.result c.loop-number.deadlines c.in-Some.ensures.within c.in-Some.ensures.found c.purge-deadline.ensures.later)

-- no deadline has passed
pub returns-clause-purged : goal.returns-clause-purged
returns-clause-purged c = some_all (c.args.time + 1) c.loop-number.deadlines c.args.stores.now c.loop-number.stores c.in_default.ensures.absent c.loop-number.invariant
