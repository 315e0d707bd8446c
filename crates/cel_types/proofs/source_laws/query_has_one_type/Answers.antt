use Rattle.cel_types.proofs.QueryLaws as lemma
use Rattle.cel_types.proofs.source_laws.query_has_one_type.Goals as goal

pub returns-clause-expression : goal.returns-clause-expression
returns-clause-expression c = lemma.Queries-one

pub returns-clause-fault : goal.returns-clause-fault
returns-clause-fault c = lemma.FailsAsQuery-one

pub returns-clause-not_both : goal.returns-clause-not_both
returns-clause-not_both c = lemma.Queries-no_fault
