use Rattle.courses.proofs.VerdictLemmas.{verdicts_judged}
use Rattle.courses.proofs.laws.verdicts_are_judged.Goals as goal

pub returns : goal.returns
returns c = verdicts_judged
