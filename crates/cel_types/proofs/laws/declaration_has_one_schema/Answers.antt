use Rattle.cel_types.proofs.DeclarationLaws as lemma
use Rattle.cel_types.proofs.laws.declaration_has_one_schema.Goals as goal

pub returns-clause-schema : goal.returns-clause-schema
returns-clause-schema c = lemma.Declares-one

pub returns-clause-fault : goal.returns-clause-fault
returns-clause-fault c = lemma.FailsAsDeclaration-one

pub returns-clause-not_both : goal.returns-clause-not_both
returns-clause-not_both c = lemma.Declares-no_fault
