use Rattle.event_csv.proofs.FaultsFacts.{event-first_fault}
use Rattle.event_csv.proofs.laws.lines_have_their_first_fault.Goals as goal

pub returns : goal.returns
returns c = event-first_fault
