use Rattle.std.proofs.Common.{◌≡◌, ◌∙◌, ◌↔◌, ◌+◌, ◌≤◌, [], ℕ, List, Contains, Any, ap, subst, sym, arith}
use Rattle.std.proofs.lemmas.List.Elements.{All-weaker}
use Rattle.event_types.specs.declared.value.Value.{Value}
use Rattle.semantics.specs.Values.{value_at}
use Rattle.instances.specs.Alive.{is_alive}
use Rattle.instances.specs.Bounds.{alive_instances}
use Rattle.binding_index.specs.Buckets.{AreBuckets, instances_in_order, keys_in_order}
use Rattle.binding_index.proofs.BucketLemmas.{same_distinct, same_in_order, same_keys}
use Rattle.binding_index.proofs.PurgeLemmas.{left_in_order, left_over, left_over_ready, start_in_order}
use Rattle.binding_index.proofs.StartLemmas.{all_from}
use Rattle.binding_index.proofs.StoreLemmas.{settled}
use Rattle.binding_index.proofs.keyed_store.KeyedStore.expire.Goals as goal

-- no key comes twice, once the noted buckets are arranged
pub keep_all_alive-self-inside-requires-clause-distinct : goal.keep_all_alive-self-inside-requires-clause-distinct
keep_all_alive-self-inside-requires-clause-distinct c = same_distinct c.self.inside.buckets.entries c.arrange_noted-self-inside.new.buckets.entries c.arrange_noted-self-inside.ensures.same c.self.invariant.distinct

pub invariant_of-self : goal.invariant_of-self
invariant_of-self c =
    let before =
    settled c.self.inside.key.binding c.self.inside.emptied c.self.inside.filled c.arrange_noted-self-inside.result c.self.inside.starts c.arrange_noted-self-inside.new.starts c.self.inside.buckets.entries c.arrange_noted-self-inside.new.buckets.entries c.self.invariant c.arrange_noted-self-inside.ensures.same c.arrange_noted-self-inside.ensures.starts
    c.arrange_noted-self-inside.ensures.room c.arrange_noted-self-inside.ensures.within c.arrange_noted-self-inside.ensures.split in
    subst (λ (ns : List ℕ). AreBuckets c.self.inside.key.binding ns c.keep_all_alive-self-inside.result c.keep_all_alive-self-inside.new.starts c.forget_from.new.buckets.entries) (sym c.arrange_noted-self-inside.ensures.none)
    (left_over c.self.inside.key.binding [] c.arrange_noted-self-inside.result c.arrange_noted-self-inside.new.starts (λ instance. is_alive (c.args.now + 1) c.self.inside.condition instance.tuple) c.arrange_noted-self-inside.new.buckets.entries c.keep_all_alive-self-inside.new.buckets.entries c.forget_from.new.buckets.entries before
    c.keep_all_alive-self-inside.ensures.purged c.keep_all_alive-self-inside.result c.keep_all_alive-self-inside.new.starts c.keep_all_alive-self-inside.ensures.starts c.keep_all_alive-self-inside.ensures.room c.keep_all_alive-self-inside.ensures.within c.keep_all_alive-self-inside.ensures.split c.forget_from.ensures)

pub returns-clause-alive : goal.returns-clause-alive
returns-clause-alive c =
    let before =
    settled c.self.inside.key.binding c.self.inside.emptied c.self.inside.filled c.arrange_noted-self-inside.result c.self.inside.starts c.arrange_noted-self-inside.new.starts c.self.inside.buckets.entries c.arrange_noted-self-inside.new.buckets.entries c.self.invariant c.arrange_noted-self-inside.ensures.same c.arrange_noted-self-inside.ensures.starts
    c.arrange_noted-self-inside.ensures.room c.arrange_noted-self-inside.ensures.within c.arrange_noted-self-inside.ensures.split in
    rw (← c.self.view_is) (left_in_order c.self.inside.key.binding [] c.arrange_noted-self-inside.result c.arrange_noted-self-inside.new.starts (λ instance. is_alive (c.args.now + 1) c.self.inside.condition instance.tuple) c.arrange_noted-self-inside.new.buckets.entries c.keep_all_alive-self-inside.new.buckets.entries c.forget_from.new.buckets.entries before
    c.keep_all_alive-self-inside.ensures.purged c.keep_all_alive-self-inside.result c.keep_all_alive-self-inside.new.starts c.keep_all_alive-self-inside.ensures.starts c.keep_all_alive-self-inside.ensures.room c.keep_all_alive-self-inside.ensures.within c.keep_all_alive-self-inside.ensures.split c.forget_from.ensures
    ∙ ap (alive_instances (c.args.now + 1) c.self.inside.condition) (same_in_order c.self.inside.buckets.entries c.arrange_noted-self-inside.new.buckets.entries c.arrange_noted-self-inside.ensures.same))

pub returns-clause-ready : goal.returns-clause-ready
returns-clause-ready c =
    let before =
    settled c.self.inside.key.binding c.self.inside.emptied c.self.inside.filled c.arrange_noted-self-inside.result c.self.inside.starts c.arrange_noted-self-inside.new.starts c.self.inside.buckets.entries c.arrange_noted-self-inside.new.buckets.entries c.self.invariant c.arrange_noted-self-inside.ensures.same c.arrange_noted-self-inside.ensures.starts
    c.arrange_noted-self-inside.ensures.room c.arrange_noted-self-inside.ensures.within c.arrange_noted-self-inside.ensures.split in
    rw (← c.self.view_is) (λ key. subst (λ (ks : List Value). Contains (keys_in_order c.forget_from.new.buckets.entries) key ↔ (Contains ks key × Any (λ instance. value_at instance.tuple c.self.inside.key.binding ≡ key) (instances_in_order c.forget_from.new.buckets.entries)))
    (same_keys c.self.inside.buckets.entries c.arrange_noted-self-inside.new.buckets.entries c.arrange_noted-self-inside.ensures.same)
    (left_over_ready c.self.inside.key.binding [] c.arrange_noted-self-inside.result c.arrange_noted-self-inside.new.starts (λ instance. is_alive (c.args.now + 1) c.self.inside.condition instance.tuple) c.arrange_noted-self-inside.new.buckets.entries c.keep_all_alive-self-inside.new.buckets.entries c.forget_from.new.buckets.entries before
    c.keep_all_alive-self-inside.ensures.purged c.keep_all_alive-self-inside.result c.keep_all_alive-self-inside.new.starts c.keep_all_alive-self-inside.ensures.starts c.keep_all_alive-self-inside.ensures.room c.keep_all_alive-self-inside.ensures.within c.keep_all_alive-self-inside.ensures.split c.forget_from.ensures key))

pub returns-clause-oldest : goal.returns-clause-oldest
returns-clause-oldest c =
    let before =
    settled c.self.inside.key.binding c.self.inside.emptied c.self.inside.filled c.arrange_noted-self-inside.result c.self.inside.starts c.arrange_noted-self-inside.new.starts c.self.inside.buckets.entries c.arrange_noted-self-inside.new.buckets.entries c.self.invariant c.arrange_noted-self-inside.ensures.same c.arrange_noted-self-inside.ensures.starts
    c.arrange_noted-self-inside.ensures.room c.arrange_noted-self-inside.ensures.within c.arrange_noted-self-inside.ensures.split in
    let are =
    left_over c.self.inside.key.binding [] c.arrange_noted-self-inside.result c.arrange_noted-self-inside.new.starts (λ instance. is_alive (c.args.now + 1) c.self.inside.condition instance.tuple) c.arrange_noted-self-inside.new.buckets.entries c.keep_all_alive-self-inside.new.buckets.entries c.forget_from.new.buckets.entries before
    c.keep_all_alive-self-inside.ensures.purged c.keep_all_alive-self-inside.result c.keep_all_alive-self-inside.new.starts c.keep_all_alive-self-inside.ensures.starts c.keep_all_alive-self-inside.ensures.room c.keep_all_alive-self-inside.ensures.within c.keep_all_alive-self-inside.ensures.split c.forget_from.ensures in
    start_in_order c.min.result c.forget_from.new.buckets.entries are.distinct
    (all_from c.min.result c.keep_all_alive-self-inside.new.starts c.forget_from.new.buckets.entries
    (All-weaker (λ (start : ℕ). c.earliest.result ≤ start) (λ (start : ℕ). c.min.result ≤ start) (λ start le. omega (arith, le, c.min.ensures)) c.keep_all_alive-self-inside.new.starts c.earliest.ensures.all) are.room are.start)
