use Rattle.catalogue.proofs.ChangeLemmas.{programs_keep_kinds, programs_lose_queries, programs_take_queries}
use Rattle.catalogue.proofs.laws.queries_come_and_leave.Goals as goal

pub returns : goal.returns
returns c = record { come = programs_take_queries; leave = programs_lose_queries; kinds = programs_keep_kinds }
