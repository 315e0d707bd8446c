use Rattle.std.proofs.Common.{◌∙◌, sym, ap, ◌-◌, ◌^◌, min}
use Rattle.std.proofs.lemmas.List.Sorted.{length_permutation}
use Rattle.binding_index.proofs.BucketLemmas.{in_order_permuted}
use Rattle.binding_index.proofs.keyed_store.KeyedStoreWaiting.count.Goals as goal

pub returns : goal.returns
returns c = rw (← c.self.view_is) (c.count_all.ensures ∙ ap (λ n. min n (2 ^ 64 - 1)) (sym (length_permutation _ _ (in_order_permuted c.self.inside.buckets.entries c.self.invariant.distinct))))
