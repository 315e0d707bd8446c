-- The rules of the types, named by what they are the rules of, for searches.
use Rattle.cel_types.specs.Scalars as scalar
use Rattle.cel_types.specs.Operands as operand
use Rattle.cel_types.specs.Predicates as predicate
use Rattle.cel_types.proofs.ScalarSteps.{left_fails, text_fails, sum_is, difference_is, product_is, least_is, greatest_is, sum_fails, difference_fails, product_fails, least_fails, greatest_fails}

-- the faults of an operand
pub ruleset operand_rules = (operand.own, text_fails)

-- the kinds and the faults of scalars
pub ruleset scalar_rules = (
  scalar.number,
  scalar.decimal,
  scalar.quoted,
  scalar.dur,
  scalar.right,
  left_fails,
  sum_is,
  difference_is,
  product_is,
  least_is,
  greatest_is,
  sum_fails,
  difference_fails,
  product_fails,
  least_fails,
  greatest_fails,
)

-- the meaning and the faults of a comparison
pub ruleset test_rules = (predicate.test, predicate.test_left, predicate.test_right, predicate.test_kinds)

-- the meaning and the faults of predicates
pub ruleset predicate_rules =
    (predicate.true, predicate.and, predicate.or, predicate.not, predicate.and_left, predicate.and_right, predicate.or_left, predicate.or_right, predicate.denied)
