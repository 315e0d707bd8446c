-- A store with a key as contracts see it.
use Rattle.std.specs.Prelude.{List}
use Rattle.event_types.specs.declared.value.Value.{Value}
use Rattle.semantics.specs.Scalars.{Pr}
use Rattle.instances.specs.Keys.{Key}
use Rattle.instances.specs.declared.instance.Instance.{Instance}

-- a store with a key: the condition under which its instances are matched, the key, the keys that are ready, and the instances
pub record Keyed : Type 0 where
  pub condition : List Pr
  pub key : Key
  pub ready : List Value
  pub instances : List Instance
