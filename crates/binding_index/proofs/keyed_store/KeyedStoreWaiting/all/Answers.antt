use Rattle.binding_index.proofs.StoreLemmas.{all_permuted}
use Rattle.binding_index.proofs.keyed_store.KeyedStoreWaiting.all.Goals as goal

pub returns : goal.returns
returns c = rw (← c.self.view_is) (all_permuted c.self.inside.buckets.entries c.copy_all.result c.self.invariant.distinct c.copy_all.ensures)
