use Rattle.catalogue.proofs.ProgramLemmas as lemma
use Rattle.catalogue.proofs.laws.accepted_texts_are_wide_programs.Goals as goal

pub returns : goal.returns
returns c = lemma.accepted_are_wide_programs
