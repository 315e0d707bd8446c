use Rattle.catalogue.proofs.ProgramLemmas as lemma
use Rattle.catalogue.proofs.laws.work_is_in_order.Goals as goal

pub returns-clause-order : goal.returns-clause-order
returns-clause-order c = lemma.work_is_in_order

pub returns-clause-numbers : goal.returns-clause-numbers
returns-clause-numbers c = lemma.numbers_are_queries

pub returns-clause-all : goal.returns-clause-all
returns-clause-all c = lemma.all_are_worked_on
