use Rattle.splitter.proofs.ProgramLawLemmas.{ordered}
use Rattle.splitter.proofs.program_laws.chains_are_in_order.Goals as goal

pub returns : goal.returns
returns c = ordered
