use Rattle.std.proofs.Common.{◌≡◌, ◌∙◌, ◌↔◌, sym, subst, ℕ, List, Contains, Any}
use Rattle.event_types.specs.declared.value.Value.{Value}
use Rattle.semantics.specs.Values.{value_at}
use Rattle.binding_index.specs.Buckets.{AreBuckets, instances_in_order, keys_in_order}
use Rattle.binding_index.proofs.BucketLemmas.{same_in_order, same_keys}
use Rattle.binding_index.proofs.PurgeLemmas.{cut_buckets, cut_in_order, cut_ready}
use Rattle.binding_index.proofs.StoreLemmas.{settled}
use Rattle.binding_index.proofs.keyed_store.KeyedStore.forget_unused.Goals as goal

pub invariant_of-self : goal.invariant_of-self
invariant_of-self c =
    let are =
    settled c.self.inside.key.binding c.self.inside.emptied c.self.inside.filled c.arrange_noted-self-inside.result c.self.inside.starts c.arrange_noted-self-inside.new.starts c.self.inside.buckets.entries c.arrange_noted-self-inside.new.buckets.entries c.self.invariant c.arrange_noted-self-inside.ensures.same c.arrange_noted-self-inside.ensures.starts
    c.arrange_noted-self-inside.ensures.room c.arrange_noted-self-inside.ensures.within c.arrange_noted-self-inside.ensures.split in
    subst (λ (ns : List ℕ). AreBuckets c.self.inside.key.binding ns c.arrange_noted-self-inside.result c.arrange_noted-self-inside.new.starts c.forget_from.new.buckets.entries) (sym c.arrange_noted-self-inside.ensures.none)
    (cut_buckets c.self.inside.key.binding c.arrange_noted-self-inside.result c.arrange_noted-self-inside.new.starts c.arrange_noted-self-inside.new.buckets.entries c.forget_from.new.buckets.entries are c.forget_from.ensures)

pub returns-clause-same_instances : goal.returns-clause-same_instances
returns-clause-same_instances c =
    let are =
    settled c.self.inside.key.binding c.self.inside.emptied c.self.inside.filled c.arrange_noted-self-inside.result c.self.inside.starts c.arrange_noted-self-inside.new.starts c.self.inside.buckets.entries c.arrange_noted-self-inside.new.buckets.entries c.self.invariant c.arrange_noted-self-inside.ensures.same c.arrange_noted-self-inside.ensures.starts
    c.arrange_noted-self-inside.ensures.room c.arrange_noted-self-inside.ensures.within c.arrange_noted-self-inside.ensures.split in
    rw (← c.self.view_is) (cut_in_order c.self.inside.key.binding c.arrange_noted-self-inside.result c.arrange_noted-self-inside.new.starts c.arrange_noted-self-inside.new.buckets.entries c.forget_from.new.buckets.entries are c.forget_from.ensures ∙ same_in_order c.self.inside.buckets.entries c.arrange_noted-self-inside.new.buckets.entries c.arrange_noted-self-inside.ensures.same)

pub returns-clause-ready : goal.returns-clause-ready
returns-clause-ready c =
    let are =
    settled c.self.inside.key.binding c.self.inside.emptied c.self.inside.filled c.arrange_noted-self-inside.result c.self.inside.starts c.arrange_noted-self-inside.new.starts c.self.inside.buckets.entries c.arrange_noted-self-inside.new.buckets.entries c.self.invariant c.arrange_noted-self-inside.ensures.same c.arrange_noted-self-inside.ensures.starts
    c.arrange_noted-self-inside.ensures.room c.arrange_noted-self-inside.ensures.within c.arrange_noted-self-inside.ensures.split in
    rw (← c.self.view_is) (λ key. subst (λ (ks : List Value). Contains (keys_in_order c.forget_from.new.buckets.entries) key ↔ (Contains ks key × Any (λ instance. value_at instance.tuple c.self.inside.key.binding ≡ key) (instances_in_order c.forget_from.new.buckets.entries)))
    (same_keys c.self.inside.buckets.entries c.arrange_noted-self-inside.new.buckets.entries c.arrange_noted-self-inside.ensures.same) (cut_ready c.self.inside.key.binding c.arrange_noted-self-inside.result c.arrange_noted-self-inside.new.starts c.arrange_noted-self-inside.new.buckets.entries c.forget_from.new.buckets.entries are c.forget_from.ensures key))
