use Rattle.cel_types.proofs.ScalarSteps.{is_found}
use Rattle.cel_types.specs.Views.{typed_of}
use Rattle.cel_types.proofs.scalars.attribute.Goals as goal

pub returns-in-Some-clause-ok : goal.returns-in-Some-clause-ok
returns-in-Some-clause-ok c = is_found {t = typed_of c.in-Some.typed} c.in-Some.ensures
