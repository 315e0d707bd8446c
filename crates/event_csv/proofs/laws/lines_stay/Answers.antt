use Rattle.event_csv.proofs.GoOnFacts.{go_on-left}
use Rattle.event_csv.proofs.laws.lines_stay.Goals as goal

pub returns : goal.returns
returns c = go_on-left
