use Rattle.catalogue.proofs.HoldingLemmas.{loaded_are_accepted}
use Rattle.cayuga_run.proofs.accepting.judge_text.Goals as goal

-- the text is accepted as what the catalogue holds
pub returns-in-Ok-clause-accepted : goal.returns-in-Ok-clause-accepted
returns-in-Ok-clause-accepted c = loaded_are_accepted c.args.text.now c.in-Ok.catalogue c.in-Ok.ensures.ok
