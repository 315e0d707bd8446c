use Rattle.std.proofs.Common.{◌∙◌, [], ℕ, List, Some, ap, subst, sym}
use Rattle.semantics.specs.Births.{is_after}
use Rattle.instances.specs.Births.{began_after}
use Rattle.instances.proofs.BirthLemmas.{began_unborn}
use Rattle.binding_index.specs.Buckets.{AreBuckets, instances_in_order}
use Rattle.binding_index.proofs.BucketLemmas.{same_distinct, same_in_order, same_keys}
use Rattle.binding_index.proofs.PurgeLemmas.{purged_buckets, purged_in_order, purged_keys}
use Rattle.binding_index.proofs.StoreLemmas.{settled}
use Rattle.binding_index.proofs.keyed_store.KeyedStore.cut.Goals as goal

-- no key comes twice, once the noted buckets are arranged
pub keep_all_after-self-inside-requires-clause-distinct : goal.keep_all_after-self-inside-requires-clause-distinct
keep_all_after-self-inside-requires-clause-distinct c = same_distinct c.self.inside.buckets.entries c.arrange_noted-self-inside.new.buckets.entries c.arrange_noted-self-inside.ensures.same c.self.invariant.distinct

pub invariant_of-self : goal.invariant_of-self
invariant_of-self c =
    let are =
    settled c.self.inside.key.binding c.self.inside.emptied c.self.inside.filled c.arrange_noted-self-inside.result c.self.inside.starts c.arrange_noted-self-inside.new.starts c.self.inside.buckets.entries c.arrange_noted-self-inside.new.buckets.entries c.self.invariant c.arrange_noted-self-inside.ensures.same c.arrange_noted-self-inside.ensures.starts
    c.arrange_noted-self-inside.ensures.room c.arrange_noted-self-inside.ensures.within c.arrange_noted-self-inside.ensures.split in
    subst (λ (ns : List ℕ). AreBuckets c.self.inside.key.binding ns c.keep_all_after-self-inside.result c.keep_all_after-self-inside.new.starts c.keep_all_after-self-inside.new.buckets.entries) (sym c.arrange_noted-self-inside.ensures.none)
    (purged_buckets c.self.inside.key.binding [] c.arrange_noted-self-inside.result c.arrange_noted-self-inside.new.starts (λ instance. is_after (Some c.in-Some.since) instance.first) c.arrange_noted-self-inside.new.buckets.entries c.keep_all_after-self-inside.new.buckets.entries are
    c.keep_all_after-self-inside.ensures.purged c.keep_all_after-self-inside.result c.keep_all_after-self-inside.new.starts c.keep_all_after-self-inside.ensures.starts c.keep_all_after-self-inside.ensures.room c.keep_all_after-self-inside.ensures.within c.keep_all_after-self-inside.ensures.split)

pub returns-in-Some-clause-began : goal.returns-in-Some-clause-began
returns-in-Some-clause-began c =
    let are =
    settled c.self.inside.key.binding c.self.inside.emptied c.self.inside.filled c.arrange_noted-self-inside.result c.self.inside.starts c.arrange_noted-self-inside.new.starts c.self.inside.buckets.entries c.arrange_noted-self-inside.new.buckets.entries c.self.invariant c.arrange_noted-self-inside.ensures.same c.arrange_noted-self-inside.ensures.starts
    c.arrange_noted-self-inside.ensures.room c.arrange_noted-self-inside.ensures.within c.arrange_noted-self-inside.ensures.split in
    rw (← c.self.view_is) (purged_in_order c.self.inside.key.binding [] c.arrange_noted-self-inside.result c.arrange_noted-self-inside.new.starts (λ instance. is_after (Some c.in-Some.since) instance.first) c.arrange_noted-self-inside.new.buckets.entries c.keep_all_after-self-inside.new.buckets.entries are
    c.keep_all_after-self-inside.ensures.purged ∙ ap (began_after (Some c.in-Some.since)) (same_in_order c.self.inside.buckets.entries c.arrange_noted-self-inside.new.buckets.entries c.arrange_noted-self-inside.ensures.same)
    ∙ ap (λ birth. began_after birth (instances_in_order c.self.inside.buckets.entries)) (sym c.in-Some.is))

pub returns-in-Some-clause-same_ready : goal.returns-in-Some-clause-same_ready
returns-in-Some-clause-same_ready c =
    let are =
    settled c.self.inside.key.binding c.self.inside.emptied c.self.inside.filled c.arrange_noted-self-inside.result c.self.inside.starts c.arrange_noted-self-inside.new.starts c.self.inside.buckets.entries c.arrange_noted-self-inside.new.buckets.entries c.self.invariant c.arrange_noted-self-inside.ensures.same c.arrange_noted-self-inside.ensures.starts
    c.arrange_noted-self-inside.ensures.room c.arrange_noted-self-inside.ensures.within c.arrange_noted-self-inside.ensures.split in
    rw (← c.self.view_is) (purged_keys c.self.inside.key.binding [] c.arrange_noted-self-inside.result c.arrange_noted-self-inside.new.starts (λ instance. is_after (Some c.in-Some.since) instance.first) c.arrange_noted-self-inside.new.buckets.entries c.keep_all_after-self-inside.new.buckets.entries are
    c.keep_all_after-self-inside.ensures.purged ∙ same_keys c.self.inside.buckets.entries c.arrange_noted-self-inside.new.buckets.entries c.arrange_noted-self-inside.ensures.same)

pub returns-in_default-clause-began : goal.returns-in_default-clause-began
returns-in_default-clause-began c = sym (began_unborn c.args.self.now.instances) ∙ ap (λ birth. began_after birth c.args.self.now.instances) (sym c.in_default.is)
