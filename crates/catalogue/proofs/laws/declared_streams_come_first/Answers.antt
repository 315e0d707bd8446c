use Rattle.catalogue.proofs.ProgramLemmas as lemma
use Rattle.catalogue.proofs.laws.declared_streams_come_first.Goals as goal

pub returns-clause-first : goal.returns-clause-first
returns-clause-first c = lemma.declared_come_first

pub returns-clause-told : goal.returns-clause-told
returns-clause-told c = lemma.declared_are_told
