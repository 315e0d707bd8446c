use Rattle.birth_laws.proofs.LeastBirthLemmas.{each_has_least}
use Rattle.birth_laws.proofs.each_prefix_has_a_least_birth.Goals as goal

pub returns : goal.returns
returns c = each_has_least
