-- What is listed for the queries of a program, one after another.
use Rattle.std.proofs.Common.{ℕ, List, [], ◌∷◌, map, ◌↔◌}
use Rattle.std.specs.Prelude.{Contains}
use Rattle.std.specs.List.{All, AllZip}
use Rattle.std.proofs.lemmas.List.Elements.{All-contains, All-head, All-tail}
use Rattle.event_types.specs.declared.kind.Kind.{Kind}
use Rattle.event_types.specs.Tuple.{IsSound, TupleView}
use Rattle.semantics.specs.Histories.{Event}
use Rattle.semantics.specs.Programs.{IsUnborn, Program, Query}
use Rattle.semantics.specs.TypedPrograms.{IsProgram}
use Rattle.derivations.specs.Derivation.{Derivation}
use Rattle.derivations.specs.DerivedTuples.{DerivedTuple}
use Rattle.derivations.specs.DerivedPrograms.{derived_env}
use Rattle.derivations.specs.Derives.{Derives}
use Rattle.derivations.proofs.LawLemmas.{deriving_is_listed, listed_derives}

-- a fact of each item and what is listed for it, by the items in turn
pub listed_in_turn : {X Y : Type 0} (R : X → Y → Type 0) (listed : X → Y) (xs : List X) → All (λ x. R x (listed x)) xs → AllZip R xs (map listed xs)
listed_in_turn R listed [] all = tt
listed_in_turn R listed (x ∷ xs) all = (All-head (λ x. R x (listed x)) x xs all, listed_in_turn R listed xs (All-tail (λ x. R x (listed x)) x xs all))

-- over sound events a tuple is listed with a derivation exactly where it is derived by it
pub listed_where_derives : (kinds : ℕ → List Kind) (program : Program) (history : List Event) → IsProgram kinds program → All IsUnborn program.queries → All (λ event. IsSound event.tuple) history
    → (query : Query) → Contains program.queries query → (by : Derivation) (tuple : TupleView)
    → Contains (derived_env program history query.stream) (record { tuple = tuple; by = by }) ↔ Derives program history query.expr by tuple
listed_where_derives kinds program history typed unborn sound query there by tuple = (
  λ is. All-contains (λ (x : DerivedTuple). Derives program history query.expr x.by x.tuple) (derived_env program history query.stream) (record { tuple = tuple; by = by })
      (All-contains (λ (q : Query). All (λ (x : DerivedTuple). Derives program history q.expr x.by x.tuple) (derived_env program history q.stream)) program.queries query (listed_derives kinds program history typed unborn) there) is,
  λ derives. All-contains (λ (q : Query). (by : Derivation) (tuple : TupleView) → Derives program history q.expr by tuple → Contains (derived_env program history q.stream) (record { tuple = tuple; by = by }))
      program.queries query (deriving_is_listed kinds program history typed unborn sound) there by tuple derives,
)
