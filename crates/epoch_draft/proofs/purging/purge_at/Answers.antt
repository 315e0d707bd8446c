use Rattle.std.proofs.Common.{subst, ◌∙◌, sym, ap, ◌+◌}
use Rattle.std.specs.Prelude.{None, Option}
use Rattle.std.proofs.lemmas.Option.{get_or_from_slice_get, slice_get_within}
use Rattle.binding_index.specs.declared.store.Store.{Store}
use Rattle.epoch_draft.specs.Held.{shape_of}
use Rattle.epoch_draft.specs.Led.{StaysReady}
use Rattle.epoch_draft.specs.Purging.{left_in}
use Rattle.epoch_draft.proofs.PurgeLemmas.{purged_there}
use Rattle.epoch_draft.proofs.purging.purge_at.Goals as goal

pub returns-then-is_waiting : goal.returns-then-is_waiting
returns-then-is_waiting c =
    let stores = c.args.stores.now in
    let n = c.args.number in
    let slot = sym (get_or_from_slice_get stores n c.get_mut.result.now None c.get_mut.ensures.value) in
    purged_there c.args.network.now (c.args.time + 1) n stores c.purge.new.slot (slice_get_within stores n c.get_mut.result.now c.get_mut.ensures.value) (sym c.is_waiting.ensures.waits ∙ c.if-is_waiting.true)
    (c.least_birth-since.result, c.least_birth-since.ensures, c.purge.ensures.purged ∙ ap (left_in (c.args.time + 1) c.least_birth-since.result) slot) (c.purge.ensures.shape ∙ ap shape_of slot) c.purge.ensures.used
    (subst (λ (o : Option Store). StaysReady o c.purge.new.slot) slot c.purge.ensures.stays)
