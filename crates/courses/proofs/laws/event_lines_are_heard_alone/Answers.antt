use Rattle.courses.proofs.EventLinesLemmas.{texts_of_events}
use Rattle.courses.proofs.laws.event_lines_are_heard_alone.Goals as goal

pub returns : goal.returns
returns c = texts_of_events
