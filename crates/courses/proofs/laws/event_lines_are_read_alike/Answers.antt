use Rattle.courses.proofs.EventLinesLemmas.{texts_read_alike}
use Rattle.courses.proofs.laws.event_lines_are_read_alike.Goals as goal

pub returns : goal.returns
returns c = texts_read_alike
