use Rattle.splitter.proofs.ProgramLawLemmas.{meant}
use Rattle.splitter.proofs.program_laws.chains_mean_their_program.Goals as goal

pub returns : goal.returns
returns c = meant
