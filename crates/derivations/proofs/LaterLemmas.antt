-- The nexts of a binding, and those with which an iteration goes on, start after its detection.
use Rattle.std.proofs.Common.{◌<◌, List}
use Rattle.std.specs.List.{All}
use Rattle.std.proofs.lemmas.List.Elements.{All-filter}
use Rattle.event_types.specs.Tuple.{TupleView}
use Rattle.semantics.specs.Scalars.{Pr}
use Rattle.semantics.specs.Nexts.{is_earliest, is_eligible, nexts}
use Rattle.semantics.specs.Runs.{goers}
use Rattle.scalar_expr.proofs.NextsLemmas.{nexts_start_later}
use Rattle.scalar_expr.proofs.RunsLemmas.{goers_start_later}
use Rattle.derivations.specs.DerivedTuples.{DerivedTuple, derived_eligible, derived_goers, derived_nexts, tuples_in}
use Rattle.derivations.proofs.FittingLemmas.{all_tuples_of}
use Rattle.derivations.proofs.TupleLemmas.{tuples_goers, tuples_nexts}

pub derived_nexts_start_later : (p : List Pr) (b : TupleView) (found : List DerivedTuple) → All (λ x. b.at < x.tuple.from) (derived_nexts p b found)
derived_nexts_start_later p b found = all_tuples_of (λ tuple. b.at < tuple.from) (derived_nexts p b found) (nexts p b (tuples_in found)) (tuples_nexts p b found) (nexts_start_later p b (tuples_in found))

pub derived_goers_start_later : (p q : List Pr) (found : List DerivedTuple) (b : TupleView) → All (λ x. b.at < x.tuple.from) (derived_goers p q found b)
derived_goers_start_later p q found b = all_tuples_of (λ tuple. b.at < tuple.from) (derived_goers p q found b) (goers p q (tuples_in found) b) (tuples_goers p q found b) (goers_start_later p q (tuples_in found) b)

-- what holds of each tuple of the list holds of each of the nexts
pub derived_nexts_keep : (P : DerivedTuple → Type 0) (p : List Pr) (b : TupleView) (found : List DerivedTuple) → All P found → All P (derived_nexts p b found)
derived_nexts_keep P p b found all =
    let eligible = derived_eligible p b found in All-filter (λ x. is_earliest (tuples_in eligible) x.tuple) P eligible (All-filter (λ x. is_eligible p b x.tuple) P found all)
