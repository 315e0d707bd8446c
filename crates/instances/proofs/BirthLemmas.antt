-- Instances beside births.
use Rattle.std.proofs.Common.{◌≡◌, refl, ap, List, [], ◌∷◌, None}
use Rattle.instances.specs.Births.{began_after}
use Rattle.instances.specs.declared.instance.Instance.{Instance}

-- without a birth all of them began late enough
pub began_unborn : (is : List Instance) → began_after None is ≡ is
began_unborn [] = refl
began_unborn (i ∷ is) = ap (λ js. i ∷ js) (began_unborn is)
