use Rattle.binding_index.proofs.StoreLemmas.{no_buckets}
use Rattle.binding_index.proofs.keyed_store.KeyedStore.make.Goals as goal

pub invariant_of-result : goal.invariant_of-result
invariant_of-result c = no_buckets _ _ _ c.new.result.entries c.in_ok-emptied.ensures c.new.ensures.empty
