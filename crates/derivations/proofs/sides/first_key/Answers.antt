use Rattle.std.proofs.Common.{◌∙◌, ap}
use Rattle.std.specs.Prelude.{Some}
use Rattle.scalar_expr.specs.Classes.{class_of_part}
use Rattle.derivations.proofs.PartedLemmas.{part_is_key}
use Rattle.derivations.proofs.sides.first_key.Goals as goal

-- the part has the class of a key part
pub returns-in-Key : goal.returns-in-Key
returns-in-Key c = part_is_key c.args.condition.now c.loop-place.place c.in-Key.event c.in-Key.binding (c.part.ensures ∙ ap (λ p. Some (class_of_part p)) c.in-Key.is)
