use Rattle.independence.proofs.EnlargingLemmas.{same_times}
use Rattle.independence.proofs.laws.same_events_have_same_times.Goals as goal

pub returns : goal.returns
returns c = same_times
