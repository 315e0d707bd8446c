use Rattle.history_laws.proofs.LateLemmas.{late_results}
use Rattle.history_laws.proofs.late_starts_depend_on_late_events.Goals as goal

pub returns : goal.returns
returns c = late_results
