use Rattle.source_merge.proofs.StandingLemmas.{come_later, settled_are_given}
use Rattle.source_merge.proofs.laws.settled_events_are_given_once_and_in_order.Goals as goal

pub returns : goal.returns
returns c = record { whole = settled_are_given; later = come_later }
