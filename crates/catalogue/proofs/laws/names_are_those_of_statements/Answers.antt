use Rattle.catalogue.proofs.ProgramLemmas as lemma
use Rattle.catalogue.proofs.laws.names_are_those_of_statements.Goals as goal

pub returns-clause-queries : goal.returns-clause-queries
returns-clause-queries c = lemma.queries_have_their_names

pub returns-clause-streams : goal.returns-clause-streams
returns-clause-streams c = lemma.streams_have_their_names
