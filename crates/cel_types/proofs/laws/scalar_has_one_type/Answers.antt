use Rattle.cel_types.proofs.ScalarLaws as lemma
use Rattle.cel_types.proofs.laws.scalar_has_one_type.Goals as goal

pub returns-clause-term : goal.returns-clause-term
returns-clause-term c = λ scope x s t k l. lemma.IsOf-one

pub returns-clause-fault : goal.returns-clause-fault
returns-clause-fault c = λ scope x f g. lemma.HasFault-one

pub returns-clause-not_both : goal.returns-clause-not_both
returns-clause-not_both c = λ scope x s k f. lemma.IsOf-no_fault
