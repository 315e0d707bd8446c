use Rattle.cel_types.proofs.TypedLaws as lemma
use Rattle.cel_types.proofs.laws.terms_are_typed.Goals as goal

pub returns-clause-scalars : goal.returns-clause-scalars
returns-clause-scalars c = lemma.term-of_kind

pub returns-clause-predicates : goal.returns-clause-predicates
returns-clause-predicates c = lemma.meaning-typed

pub returns-clause-conditions : goal.returns-clause-conditions
returns-clause-conditions c = lemma.condition-typed
