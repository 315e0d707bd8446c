use Rattle.derivations.proofs.ProgramLemmas.{tuples_env}
use Rattle.derivations.proofs.laws.derived_tuples_are_denoted.Goals as goal

pub returns : goal.returns
returns c program history unborn stream = tuples_env program history unborn stream
