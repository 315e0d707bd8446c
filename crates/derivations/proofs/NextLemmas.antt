-- The nexts of a binding with their derivations.
use Rattle.std.proofs.Common.{◌∙◌, ap, subst, List}
use Rattle.std.specs.Prelude.{Contains, Some}
use Rattle.std.specs.List.{filter}
use Rattle.event_types.specs.Tuple.{TupleView}
use Rattle.semantics.specs.Scalars.{Pr}
use Rattle.semantics.specs.Truth.{all_true}
use Rattle.semantics.specs.Nexts.{is_earliest, is_eligible, nexts}
use Rattle.semantics.specs.Runs.{goers}
use Rattle.derivations.specs.DerivedTuples.{DerivedTuple, derived_eligible, derived_goers, derived_nexts, tuples_in}
use Rattle.derivations.proofs.ListLemmas.{filter_in, in_filter, map_in}
use Rattle.derivations.proofs.TupleLemmas.{tuple_of, tuples_filtered, tuples_goers, tuples_nexts}

-- what is among the nexts is among all, and its tuple is among the nexts of the tuples
pub next_found : (p : List Pr) (b : TupleView) (found : List DerivedTuple) (x : DerivedTuple) → Contains (derived_nexts p b found) x → Contains found x × Contains (nexts p b (tuples_in found)) x.tuple
next_found p b found x has = (
  (in_filter (λ y. is_eligible p b y.tuple) found x (in_filter (λ y. is_earliest (tuples_in (derived_eligible p b found)) y.tuple) (derived_eligible p b found) x has).0).0,
  subst (λ (tuples : List TupleView). Contains tuples x.tuple) (tuples_nexts p b found) (map_in tuple_of (derived_nexts p b found) x has),
)

-- and the other way round
pub found_next : (p : List Pr) (b : TupleView) (found : List DerivedTuple) (x : DerivedTuple) → Contains found x → Contains (nexts p b (tuples_in found)) x.tuple → Contains (derived_nexts p b found) x
found_next p b found x has next =
    let eligible = filter (is_eligible p b) (tuples_in found) in
    let first = in_filter (is_earliest eligible) eligible x.tuple next in
    let passes = (in_filter (is_eligible p b) (tuples_in found) x.tuple first.0).1 in
    filter_in (λ y. is_earliest (tuples_in (derived_eligible p b found)) y.tuple) (derived_eligible p b found) x (filter_in (λ y. is_eligible p b y.tuple) found x has passes)
    (ap (λ tuples. is_earliest tuples x.tuple) (tuples_filtered (is_eligible p b) found) ∙ first.1)

-- so it is of the nexts with which an iteration goes on
pub goer_found : (p q : List Pr) (found : List DerivedTuple) (b : TupleView) (x : DerivedTuple) → Contains (derived_goers p q found b) x → Contains found x × Contains (goers p q (tuples_in found) b) x.tuple
goer_found p q found b x has = (
  (next_found p b found x (in_filter (λ y. all_true q y.tuple (Some b)) (derived_nexts p b found) x has).0).0,
  subst (λ (tuples : List TupleView). Contains tuples x.tuple) (tuples_goers p q found b) (map_in tuple_of (derived_goers p q found b) x has),
)

pub found_goer : (p q : List Pr) (found : List DerivedTuple) (b : TupleView) (x : DerivedTuple) → Contains found x → Contains (goers p q (tuples_in found) b) x.tuple → Contains (derived_goers p q found b) x
found_goer p q found b x has goes =
    let next = in_filter (λ event. all_true q event (Some b)) (nexts p b (tuples_in found)) x.tuple goes in
    filter_in (λ y. all_true q y.tuple (Some b)) (derived_nexts p b found) x (found_next p b found x has next.0) next.1
