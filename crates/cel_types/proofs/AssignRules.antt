-- The rules of aggregates, named by what they are the rules of, for searches.
use Rattle.cel_types.specs.Aggregates as aggregates
use Rattle.cel_types.proofs.AssignLemmas.{assigns-one, is_at}

-- the faults of an aggregate, and one assignment
pub ruleset assign_rules = (aggregates.absent, aggregates.twice, aggregates.scalar, aggregates.kinds, assigns-one)

-- where an attribute is found
pub ruleset find_rules = (is_at)
