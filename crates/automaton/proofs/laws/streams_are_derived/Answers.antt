use Rattle.automaton.proofs.WorkLemmas.{streams_derived}
use Rattle.automaton.proofs.laws.streams_are_derived.Goals as goal

pub returns : goal.returns
returns c = streams_derived
