use Rattle.explanation.proofs.UnbornLemmas.{unborn_queries}
use Rattle.public_calls.proofs.tests.derived.checked.Goals as goal

-- no query of a text has a birth
pub check-requires-clause-unborn : goal.check-requires-clause-unborn
check-requires-clause-unborn g c = unborn_queries c.args.catalogue.now c.requires.unchanged.unborn
