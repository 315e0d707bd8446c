use Rattle.std.proofs.Common.{None}
use Rattle.explanation.proofs.HeardLemmas.{numbered_heard}
use Rattle.explanation.proofs.laws.numbered_events_are_heard.Goals as goal

pub returns : goal.returns
returns c = numbered_heard None
