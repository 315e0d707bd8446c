use Rattle.history_laws.proofs.LateLemmas.{results_stand}
use Rattle.history_laws.proofs.results_stand_after_a_restart.Goals as goal

pub returns : goal.returns
returns c = results_stand
