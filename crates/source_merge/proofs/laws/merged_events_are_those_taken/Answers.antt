use Rattle.source_merge.proofs.CallLemmas.{calls_keep_events}
use Rattle.source_merge.proofs.laws.merged_events_are_those_taken.Goals as goal

pub returns : goal.returns
returns c = calls_keep_events
