use Rattle.std.proofs.Common.{◌≡◌, length, List}
use Rattle.std.specs.Prelude.{Contains, IfSome}
use Rattle.std.specs.Option.{option_copied}
use Rattle.std.specs.List.{All}
use Rattle.event_types.specs.declared.value.Value.{Value}
use Rattle.instances.specs.Keys.{BindingFits}
use Rattle.instances.specs.declared.instance.Instance.{Instance}
use Rattle.binding_index.specs.Stores.{condition_of, instances_of, key_of, ready_of}
use Rattle.stream_readers.specs.KeyTables.{LeadOn}
use Rattle.epoch_draft.specs.Led.{HasKeyOf, LeadBy}
use Rattle.epoch_draft.specs.Readying.{HasRoom}
use Rattle.epoch_draft.proofs.readying.make_room_for.Given as goal

-- once there is room for those that are left, there is room for all
abbrev pub invariant-loop-instance : goal.invariant-loop-instance
invariant-loop-instance l = record {
  keys : All (λ (i : Instance). BindingFits (key_of l.store) i.tuple) l.instances;
  room : (ready : List Value) → All (Contains ready) (ready_of l.store) → All (HasRoom (key_of l.store) ready) l.instances → All (HasRoom (key_of l.store) ready) l.initial.instances;
  last : IfSome (option_copied l.last) (HasRoom (key_of l.store) (ready_of l.store));
  more : All (Contains (ready_of l.store)) (ready_of l.initial.store);
  condition : condition_of l.store ≡ condition_of l.initial.store;
  key : key_of l.store ≡ key_of l.initial.store;
  same : instances_of l.store ≡ instances_of l.initial.store;
  found : HasKeyOf l.network l.number (key_of l.store);
  led : LeadBy l.network l.keys l.number (ready_of l.store);
  leads : LeadOn l.initial.keys l.keys;
}

abbrev pub decreases-loop-instance : goal.decreases-loop-instance
decreases-loop-instance l = length l.instances
