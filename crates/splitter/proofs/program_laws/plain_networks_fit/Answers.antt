use Rattle.automaton.proofs.PlainLemmas.{plain_fits}
use Rattle.splitter.proofs.program_laws.plain_networks_fit.Goals as goal

pub returns : goal.returns
returns c = plain_fits
