use Rattle.std.proofs.Common.{◌≡◌, ◌∙◌, ◌⊎◌, sym, subst, Contains}
use Rattle.std.specs.Prelude.{OnOk}
use Rattle.event_types.specs.declared.value.Value.{Value}
use Rattle.semantics.specs.Values.{value_at}
use Rattle.binding_index.specs.Buckets.{instances_at, keys_in_order}
use Rattle.binding_index.proofs.MapLemmas.{items_found}
use Rattle.binding_index.proofs.StoreLemmas.{found_if, grown_buckets, grown_in_order, grown_key, grown_keys, grown_only, value_is}
use Rattle.binding_index.proofs.keyed_store.KeyedStoreWaiting.ready.Goals as goal

-- the key is ready
pub returns-then-is_some-clause-ok : goal.returns-then-is_some-clause-ok
returns-then-is_some-clause-ok c =
    rw (← c.self.view_is) (subst (Contains (keys_in_order c.self.inside.buckets.entries)) (sym (value_is c.args.instance.now.tuple c.vals.result.now c.self.inside.key.binding c.get-key.result.now c.vals.ensures c.get-key.ensures))
    (found_if c.self.inside.buckets.entries c.get-key.result.now (instances_at c.self.inside.buckets.entries c.get-key.result.now) c.place_near.result (sym c.is_some.ensures ∙ c.if-is_some.true) (items_found c.self.inside.buckets.entries c.get-key.result.now c.place_near.result c.place_near.ensures.found)))

pub invariant_of-self : goal.invariant_of-self
invariant_of-self c =
    grown_buckets c.self.inside.key.binding c.self.inside.emptied c.self.inside.filled c.self.inside.starts c.self.inside.buckets.entries c.add_bucket.new.buckets.entries c.in_ok-key.key c.self.invariant c.add_bucket.result c.add_bucket.ensures.ok c.add_bucket.ensures.kept
    c.add_bucket.ensures.distinct c.add_bucket.new.starts c.add_bucket.ensures.starts c.add_bucket.ensures.room

pub returns-clause-ok : goal.returns-clause-ok
returns-clause-ok c =
    let key : c.in_ok-key.key ≡ value_at c.args.instance.now.tuple c.self.inside.key.binding =
    c.in_ok-key.ensures ∙ sym (value_is c.args.instance.now.tuple c.vals.result.now c.self.inside.key.binding c.get-key.result.now c.vals.ensures c.get-key.ensures) in
    rw (← c.self.view_is) (subst (λ (v : Value). OnOk c.add_bucket.result (Contains (keys_in_order c.add_bucket.new.buckets.entries) v)) key
    (grown_key c.self.inside.key.binding c.self.inside.emptied c.self.inside.filled c.self.inside.starts c.self.inside.buckets.entries c.add_bucket.new.buckets.entries c.in_ok-key.key c.self.invariant c.add_bucket.result c.add_bucket.ensures.ok c.add_bucket.ensures.kept
    c.add_bucket.ensures.distinct))

pub returns-clause-more_ready : goal.returns-clause-more_ready
returns-clause-more_ready c =
    rw (← c.self.view_is) (grown_keys c.self.inside.key.binding c.self.inside.emptied c.self.inside.filled c.self.inside.starts c.self.inside.buckets.entries c.add_bucket.new.buckets.entries c.in_ok-key.key c.self.invariant c.add_bucket.result c.add_bucket.ensures.ok
    c.add_bucket.ensures.kept c.add_bucket.ensures.distinct)

-- no other key became ready
pub returns-clause-only : goal.returns-clause-only
returns-clause-only c =
    let key : c.in_ok-key.key ≡ value_at c.args.instance.now.tuple c.self.inside.key.binding =
    c.in_ok-key.ensures ∙ sym (value_is c.args.instance.now.tuple c.vals.result.now c.self.inside.key.binding c.get-key.result.now c.vals.ensures c.get-key.ensures) in
    rw (← c.self.view_is) (subst (λ (v : Value). (k : Value) → Contains (keys_in_order c.add_bucket.new.buckets.entries) k → Contains (keys_in_order c.self.inside.buckets.entries) k ⊎ (v ≡ k)) key
    (grown_only c.self.inside.key.binding c.self.inside.emptied c.self.inside.filled c.self.inside.starts c.self.inside.buckets.entries c.add_bucket.new.buckets.entries c.in_ok-key.key c.self.invariant c.add_bucket.result c.add_bucket.ensures.ok c.add_bucket.ensures.kept
    c.add_bucket.ensures.distinct))

pub returns-clause-same_instances : goal.returns-clause-same_instances
returns-clause-same_instances c =
    rw (← c.self.view_is) (grown_in_order c.self.inside.key.binding c.self.inside.emptied c.self.inside.filled c.self.inside.starts c.self.inside.buckets.entries c.add_bucket.new.buckets.entries c.in_ok-key.key c.self.invariant c.add_bucket.result c.add_bucket.ensures.ok
    c.add_bucket.ensures.kept c.add_bucket.ensures.distinct)
