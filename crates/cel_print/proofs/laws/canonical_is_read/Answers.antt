use Rattle.cel_print.proofs.Again.{read_again}
use Rattle.cel_print.proofs.laws.canonical_is_read.Goals as goal

pub returns : goal.returns
returns c = read_again
