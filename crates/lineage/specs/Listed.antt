-- What is listed for the queries of a program.
use Rattle.std.specs.Prelude.{◌≡◌, ◌≢◌, List, AllPairs, Contains}
use Rattle.std.specs.List.{All, AllZip}
use Rattle.event_types.specs.Tuple.{TupleView}
use Rattle.semantics.specs.Histories.{Event}
use Rattle.semantics.specs.Programs.{Program, Query, env}
use Rattle.derivations.specs.Derivation.{Derivation}
use Rattle.derivations.specs.DerivedTuples.{DerivedTuple, derivations_in, tuples_in}
use Rattle.derivations.specs.Derives.{Derives}

-- for a query its tuples are listed, as often as they come and in their order, each with a derivation that derives it; each derivation that derives a tuple of the query is listed with it, and none twice
pub record IsListed (program : Program) (history : List Event) (query : Query) (found : List DerivedTuple) : Type 0 where
  pub tuples : tuples_in found ≡ env program history query.stream
  pub derives : All (λ x. Derives program history query.expr x.by x.tuple) found
  pub complete : (by : Derivation) (tuple : TupleView) → Derives program history query.expr by tuple → Contains found (record { tuple = tuple; by = by })
  pub distinct : AllPairs (λ x y. x ≢ y) (derivations_in found)

-- the same of each query, one list for each
abbrev pub AreDerivations : Program → List Event → List (List DerivedTuple) → Type 0
AreDerivations program history table = AllZip (IsListed program history) program.queries table
