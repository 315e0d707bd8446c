use Rattle.independence.proofs.NumberLemmas.{numbers_change_nothing}
use Rattle.independence.proofs.laws.numbers_change_no_report.Goals as goal

pub returns : goal.returns
returns c = numbers_change_nothing
