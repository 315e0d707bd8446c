use Rattle.derivations.proofs.LawLemmas.{deriving_is_listed, listed_derives}
use Rattle.derivations.proofs.laws.listed_derivations_are_those_that_derive.Goals as goal

pub returns-clause-derives : goal.returns-clause-derives
returns-clause-derives c kinds program history typed unborn = listed_derives kinds program history typed unborn

pub returns-clause-listed : goal.returns-clause-listed
returns-clause-listed c kinds program history typed unborn sound = deriving_is_listed kinds program history typed unborn sound
