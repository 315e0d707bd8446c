use Rattle.change_laws.proofs.CourseLemmas as lemma
use Rattle.change_laws.proofs.courses_stand.Goals as goal

pub returns : goal.returns
returns c = lemma.courses_stand
