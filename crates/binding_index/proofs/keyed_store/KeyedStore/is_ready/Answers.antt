use Rattle.std.proofs.Common.{◌∙◌}
use Rattle.binding_index.specs.Buckets.{instances_at}
use Rattle.binding_index.proofs.MapLemmas.{items_found}
use Rattle.binding_index.proofs.StoreLemmas.{ready_if}
use Rattle.binding_index.proofs.keyed_store.KeyedStore.is_ready.Goals as goal

pub returns : goal.returns
returns c =
    rw (← c.self.view_is) (c.is_some.ensures ∙ ready_if c.self.inside.buckets.entries c.args.key.now (instances_at c.self.inside.buckets.entries c.args.key.now) c.place_near.result (items_found c.self.inside.buckets.entries c.args.key.now c.place_near.result c.place_near.ensures.found) c.place_near.ensures.absent)
