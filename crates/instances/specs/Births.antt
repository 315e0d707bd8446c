-- Instances by the time at which they began, beside the birth of a query.
use Rattle.std.specs.Prelude.{ℕ, List, Option}
use Rattle.std.specs.List.{filter}
use Rattle.semantics.specs.Births.{is_after}
use Rattle.instances.specs.declared.instance.Instance.{Instance}

-- the instances that began after a birth
abbrev pub began_after : Option ℕ → List Instance → List Instance
began_after birth instances = filter (λ instance. is_after birth instance.first) instances
