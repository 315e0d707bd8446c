use Rattle.independence.proofs.LawLemmas.{courses_stay}
use Rattle.independence.proofs.laws.added_queries_change_no_course.Goals as goal

pub returns : goal.returns
returns c = courses_stay
