use Rattle.explanation.proofs.UnbornLemmas.{unborn_queries}
use Rattle.cayuga_run.proofs.ExplainLemmas.{explanation_written}
use Rattle.cayuga_run.proofs.explain.write_explanation.Goals as goal

-- no query of a text has a birth
pub explain-requires-clause-unborn : goal.explain-requires-clause-unborn
explain-requires-clause-unborn g c = unborn_queries c.args.catalogue.now c.requires.loaded.loaded.unchanged.unborn

-- the text was written as far as the host took it
pub returns-in-Ok-clause-writes : goal.returns-in-Ok-clause-writes
returns-in-Ok-clause-writes g c = explanation_written _ _ _ _ _ _ c.write_text.result c.as_str.ensures.value c.in-Ok.ensures c.write_text.ensures.writes
