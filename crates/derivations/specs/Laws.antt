-- Laws of derivations.
use Rattle.std.specs.Prelude.{◌≡◌, ◌≢◌, ℕ, List, AllPairs, Contains}
use Rattle.std.specs.List.{All}
use Rattle.event_types.specs.declared.kind.Kind.{Kind}
use Rattle.event_types.specs.Tuple.{IsSound, TupleView}
use Rattle.semantics.specs.Histories.{Event}
use Rattle.semantics.specs.Programs.{IsUnborn, Program, env}
use Rattle.semantics.specs.TypedPrograms.{IsProgram}
use Rattle.derivations.specs.Derivation.{Derivation}
use Rattle.derivations.specs.DerivedTuples.{derivations_in, tuples_in}
use Rattle.derivations.specs.DerivedPrograms.{derived_env}
use Rattle.derivations.specs.Derives.{Derives}

-- where no query has a birth, the tuples of each stream with derivations are those of the program's stream, in their order
abbrev pub DerivedTuplesAreDenoted : Type 0
DerivedTuplesAreDenoted = (program : Program) (history : List Event) → All IsUnborn program.order → (stream : ℕ) → tuples_in (derived_env program history stream) ≡ env program history stream

-- no two tuples of a stream have the same derivation
abbrev pub DerivationsDiffer : Type 0
DerivationsDiffer = (program : Program) (history : List Event) (stream : ℕ) → AllPairs (λ x y. x ≢ y) (derivations_in (derived_env program history stream))

-- each derivation that is listed for a tuple of a query derives it
abbrev pub ListedDerives : Type 0
ListedDerives =
    (kinds : ℕ → List Kind) (program : Program) (history : List Event) → IsProgram kinds program → All IsUnborn program.queries
    → All (λ query. All (λ x. Derives program history query.expr x.by x.tuple) (derived_env program history query.stream)) program.queries

-- each derivation that derives a tuple of a query is listed for it, over sound events
abbrev pub DerivingIsListed : Type 0
DerivingIsListed =
    (kinds : ℕ → List Kind) (program : Program) (history : List Event) → IsProgram kinds program → All IsUnborn program.queries → All (λ event. IsSound event.tuple) history
    → All (λ query. (by : Derivation) (tuple : TupleView) → Derives program history query.expr by tuple → Contains (derived_env program history query.stream) (record { tuple = tuple; by = by })) program.queries
