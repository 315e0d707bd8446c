-- What is listed for the queries of a catalogue.
use Rattle.std.proofs.Common.{◌≡◌, ◌∙◌, ◌↔◌, sym, subst, ℕ, ◌<◌, List, length, map}
use Rattle.std.specs.Prelude.{Contains}
use Rattle.std.specs.List.{All, range_with_len}
use Rattle.std.proofs.lemmas.Simd.{map-map}
use Rattle.event_types.specs.Tuple.{IsSound, TupleView}
use Rattle.semantics.specs.Histories.{Event}
use Rattle.semantics.specs.Programs.{IsUnborn, Program, Query, declared_streams}
use Rattle.semantics.specs.TypedPrograms.{HaveTheirKinds, IsProgram}
use Rattle.expressions.proofs.ProgramLemmas.{declared_kinds}
use Rattle.algebra.specs.SuitedQueries.{SuitInTurn}
use Rattle.algebra.proofs.ProgramLemmas.{suit_in_turn}
use Rattle.cel_types.specs.SourceLaws.{kinds_in}
use Rattle.catalogue.specs.Catalogued.{Catalogued, program_in, query_in, work_in}
use Rattle.catalogue.specs.Standing.{StandsInOrder}
use Rattle.catalogue.proofs.PermutationLemmas.{to_range}
use Rattle.catalogue.proofs.StandLemmas.{Contains-map}
use Rattle.derivations.specs.Derivation.{Derivation}
use Rattle.derivations.specs.DerivedPrograms.{derived_env}
use Rattle.derivations.specs.DerivedTuples.{DerivedTuple}
use Rattle.derivations.specs.Derives.{Derives}
use Rattle.derivations.specs.Queries.{query_of, work_of}
use Rattle.derivations.specs.declared.publishing.Query.{Query as Asked}
use Rattle.derivations.proofs.DistinctLemmas.{env_distinct}
use Rattle.derivations.proofs.DistinctLists.{pairs_differ}
use Rattle.derivations.proofs.LawLemmas.{deriving_is_listed, listed_derives}
use Rattle.derivations.proofs.ListedLemmas.{listed_in_turn, listed_where_derives}
use Rattle.derivations.proofs.ProgramLemmas.{of_order, tuples_env}
use Rattle.derivations.proofs.WorkLemmas.{asked_suit}
use Rattle.lineage.specs.Listed.{AreDerivations, IsListed}

module _ (c : Catalogued) (stands : StandsInOrder c) (history : List Event) (unborn : All IsUnborn (program_in c).queries) where
  abbrev program : Program
  program = program_in c

  -- its queries are typed over the kinds of its streams
  typed : IsProgram (kinds_in c.streams) program
  typed = stands.wide.typed

  -- none of them has a birth, in the order of work either
  unborn_order : All IsUnborn program.order
  unborn_order = of_order (kinds_in c.streams) program history typed IsUnborn unborn

  -- they may be derived in turn
  pub queries_suit : HaveTheirKinds (kinds_in c.streams) history → (asked : List Asked) → map work_of (map query_of asked) ≡ map work_of (work_in c) → SuitInTurn (declared_streams c.declared history) (map query_of asked)
  queries_suit kinds asked same =
      asked_suit program history asked same unborn_order
      (suit_in_turn (kinds_in c.streams) (range_with_len 0 c.declared) (declared_streams c.declared history) program.order (declared_kinds (kinds_in c.streams) c.declared history kinds) typed.in_turn)

  -- what is listed on each query's stream
  listed_for_each : All (λ event. IsSound event.tuple) history → All (λ query. IsListed program history query (derived_env program history query.stream)) program.queries
  listed_for_each sound = λ k d less. record {
    tuples = tuples_env program history unborn_order _;
    derives = listed_derives (kinds_in c.streams) program history typed unborn k d less;
    complete = deriving_is_listed (kinds_in c.streams) program history typed unborn sound k d less;
    distinct = pairs_differ _ (env_distinct program history _);
  }

  -- so a list for each query, by their numbers, has their derivations
  pub are_derivations : All (λ event. IsSound event.tuple) history → (table : List (List DerivedTuple)) → table ≡ map (λ number. derived_env program history (query_in c number).stream) (range_with_len 0 (length c.order)) → AreDerivations program history table
  are_derivations sound table is =
      subst (AreDerivations program history) (map-map (λ (query : Query). derived_env program history query.stream) (query_in c) (range_with_len 0 (length c.order)) ∙ sym is)
      (listed_in_turn (IsListed program history) (λ query. derived_env program history query.stream) program.queries (listed_for_each sound))

  -- a tuple is listed with a derivation on a query's stream exactly where it is derived by it
  pub is_listed_where_derived : All (λ event. IsSound event.tuple) history → (number : ℕ) → number < length c.order → (by : Derivation) (tuple : TupleView)
      → Contains (derived_env program history (query_in c number).stream) (record { tuple = tuple; by = by }) ↔ Derives program history (query_in c number).expr by tuple
  is_listed_where_derived sound number less by tuple =
      listed_where_derives (kinds_in c.streams) program history typed unborn sound (query_in c number)
      (Contains-map (query_in c) (range_with_len 0 (length c.order)) number (to_range (length c.order) number less)) by tuple
