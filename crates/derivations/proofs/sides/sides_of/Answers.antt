use Rattle.std.proofs.Common.{sym, subst, List}
use Rattle.derivations.specs.DerivedTuples.{DerivedTuple}
use Rattle.derivations.specs.Parted.{AreParted}
use Rattle.derivations.proofs.sides.sides_of.Goals as goal

-- the tuples stand by key
pub invariant_of-result : goal.invariant_of-result
invariant_of-result c = (
  c.in_ok-sides.ensures.as_many,
  subst (λ (found : List DerivedTuple). AreParted c.match-first_key.event.0 c.match-first_key.event.1.keys c.in_ok-sides.sides found) (sym c.in_ok-whole.ensures) c.in_ok-sides.ensures.parted,
)
