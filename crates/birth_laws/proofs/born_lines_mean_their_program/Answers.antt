use Rattle.birth_laws.proofs.ProgramLemmas.{program_meant}
use Rattle.birth_laws.proofs.born_lines_mean_their_program.Goals as goal

pub returns : goal.returns
returns c = program_meant
