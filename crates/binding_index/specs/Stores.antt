-- The store of a waiting state as contracts see it.
use Rattle.std.specs.Prelude.{List, [], Option, Some, None}
use Rattle.event_types.specs.declared.value.Value.{Value}
use Rattle.semantics.specs.Scalars.{Pr}
use Rattle.instances.specs.Keys.{Key}
use Rattle.instances.specs.declared.instance.Instance.{Instance}
use Rattle.binding_index.specs.declared.store.Store.{Store}
use Rattle.binding_index.specs.declared.store.Store.TheVariants.{Plain, Keyed}

-- the condition under which the store's instances are matched
abbrev pub condition_of : Store → List Pr
condition_of (Plain store) = store.condition
condition_of (Keyed store) = store.condition

-- the key of the store, if it has one
abbrev pub key_of : Store → Option Key
key_of (Plain store) = None
key_of (Keyed store) = Some store.key

-- the instances that are stored
abbrev pub instances_of : Store → List Instance
instances_of (Plain store) = store.instances
instances_of (Keyed store) = store.instances

-- the keys that are ready
abbrev pub ready_of : Store → List Value
ready_of (Plain store) = []
ready_of (Keyed store) = store.ready
