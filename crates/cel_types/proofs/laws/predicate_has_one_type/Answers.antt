use Rattle.cel_types.proofs.PredicateLaws as lemma
use Rattle.cel_types.proofs.laws.predicate_has_one_type.Goals as goal

pub returns-clause-term : goal.returns-clause-term
returns-clause-term c = λ scope p u v. lemma.Means-one

pub returns-clause-fault : goal.returns-clause-fault
returns-clause-fault c = λ scope p f g. lemma.Fails-one

pub returns-clause-not_both : goal.returns-clause-not_both
returns-clause-not_both c = λ scope p u f. lemma.Means-no_fault
