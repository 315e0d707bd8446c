-- What suits the tuples of FOLD suits them with their derivations.
use Rattle.std.proofs.Common.{ℕ, ◌<◌, ◌-◌, List}
use Rattle.std.specs.List.{All}
use Rattle.event_types.specs.Tuple.{TupleView}
use Rattle.semantics.specs.Scalars.{Pr, Sc}
use Rattle.semantics.specs.Runs.{goers}
use Rattle.algebra.specs.Suits.{SuitsRuns}
use Rattle.algebra.proofs.FoldLemmas.{SuitsBranch, suits_branches}
use Rattle.derivations.specs.DerivedTuples.{DerivedTuple, derived_goers, tuples_in}
use Rattle.derivations.proofs.FittingLemmas.{all_tuples_of}
use Rattle.derivations.proofs.TupleLemmas.{tuples_goers}

-- what suits runs of some events suits the branch of each goer
pub goers_suit : (n : ℕ) (p q : List Pr) (m : List Sc) (found : List DerivedTuple) (b : TupleView) → 0 < n → SuitsRuns n p q m (tuples_in found) b
    → All (λ (x : DerivedTuple). SuitsBranch (n - 1) p q m (tuples_in found) b x.tuple) (derived_goers p q found b)
goers_suit n p q m found b some suits =
    all_tuples_of (SuitsBranch (n - 1) p q m (tuples_in found) b) (derived_goers p q found b) (goers p q (tuples_in found) b) (tuples_goers p q found b) (suits_branches n p q m (tuples_in found) b some suits).2
