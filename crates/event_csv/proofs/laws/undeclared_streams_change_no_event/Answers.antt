use Rattle.event_csv.proofs.UndeclaredFacts.{undeclared_change_no_event}
use Rattle.event_csv.proofs.laws.undeclared_streams_change_no_event.Goals as goal

pub returns : goal.returns
returns c = undeclared_change_no_event
