use Rattle.event_csv.proofs.RoundFacts.{pieces-lines, rounds-lines}
use Rattle.event_csv.proofs.laws.pieces_give_the_lines_of_the_text.Goals as goal

pub returns-clause-pushed : goal.returns-clause-pushed
returns-clause-pushed c = pieces-lines

pub returns-clause-taken : goal.returns-clause-taken
returns-clause-taken c = rounds-lines
