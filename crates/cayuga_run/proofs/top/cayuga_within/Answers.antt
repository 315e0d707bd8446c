use Rattle.cayuga_run.proofs.AnswerLemmas.{answers}
use Rattle.cayuga_run.proofs.top.cayuga_within.Goals as goal

pub returns-clause-answers : goal.returns-clause-answers
returns-clause-answers g c = answers _ _ _ _ _ c.do_words.ensures.outcome c.do_words.ensures.blames c.do_words.ensures.reads c.do_words.ensures.sides
