use Rattle.cel_print.proofs.Best.{best}
use Rattle.cel_print.proofs.laws.canonical_is_best.Goals as goal

pub returns : goal.returns
returns c = best
