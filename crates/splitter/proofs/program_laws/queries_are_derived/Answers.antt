use Rattle.splitter.proofs.ProgramLawLemmas.{derived_so}
use Rattle.splitter.proofs.program_laws.queries_are_derived.Goals as goal

pub returns : goal.returns
returns c = derived_so
