-- A store without a key as contracts see it.
use Rattle.std.specs.Prelude.{List}
use Rattle.semantics.specs.Scalars.{Pr}
use Rattle.instances.specs.declared.instance.Instance.{Instance}

-- a store without a key: the condition under which its instances are matched, and the instances
pub record Plain : Type 0 where
  pub condition : List Pr
  pub instances : List Instance
