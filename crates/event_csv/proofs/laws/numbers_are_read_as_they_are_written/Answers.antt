use Rattle.event_csv.proofs.ReadBackFacts.{decimals-read, numbers-read, times-read}
use Rattle.event_csv.proofs.laws.numbers_are_read_as_they_are_written.Goals as goal

pub returns-clause-times : goal.returns-clause-times
returns-clause-times c = times-read

pub returns-clause-numbers : goal.returns-clause-numbers
returns-clause-numbers c = numbers-read

pub returns-clause-decimals : goal.returns-clause-decimals
returns-clause-decimals c = decimals-read
