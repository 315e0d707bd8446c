-- Which derivations the streams of queries list.
use Rattle.std.proofs.Common.{sym, refl, subst, ℕ, ◌<◌, get_or, length, List}
use Rattle.std.specs.Prelude.{Contains}
use Rattle.std.specs.List.{All}
use Rattle.std.proofs.lemmas.List.Elements.{All-contains_itself, Contains-get_or}
use Rattle.event_types.specs.declared.kind.Kind.{Kind}
use Rattle.event_types.specs.Tuple.{IsSound, TupleView}
use Rattle.semantics.specs.Histories.{Event}
use Rattle.semantics.specs.Programs.{IsUnborn, Program, Query}
use Rattle.semantics.specs.TypedPrograms.{IsProgram}
use Rattle.derivations.specs.Derivation.{Derivation}
use Rattle.derivations.specs.DerivedTuples.{DerivedTuple}
use Rattle.derivations.specs.DerivedPrograms.{derived_env}
use Rattle.derivations.specs.Derives.{Derives, IsPublished}
use Rattle.derivations.proofs.CompleteLemmas.{derived_are_listed}
use Rattle.derivations.proofs.ProgramLemmas.{published_derived, published_reads}
use Rattle.derivations.proofs.SoundLemmas.{listed_are_derived}

-- a query of the program publishes its stream
own_stream : (program : Program) (k : ℕ) (d : Query) → k < length program.queries → IsPublished program (get_or program.queries k d).stream (get_or program.queries k d).expr
own_stream program k d lt = record { query = get_or program.queries k d; there = Contains-get_or program.queries k d lt; stream_is = refl; expr_is = refl }

-- what is listed for a query derives
pub listed_derives : (kinds : ℕ → List Kind) (program : Program) (history : List Event) → IsProgram kinds program → All IsUnborn program.queries
    → All (λ query. All (λ x. Derives program history query.expr x.by x.tuple) (derived_env program history query.stream)) program.queries
listed_derives kinds program history typed unborn = λ k d lt.
    let query = get_or program.queries k d in
    let is = own_stream program k d lt in
    let same = published_derived kinds program history typed query.stream query.expr is in
    λ j x within.
    let found = derived_env program history query.stream in
    let one = get_or found j x in
    listed_are_derived kinds program history typed unborn query.expr (published_reads kinds program history typed query.stream query.expr is) one
    (subst (λ (list : List DerivedTuple). Contains list one) same (All-contains_itself found j x within))

-- what derives is listed
pub deriving_is_listed : (kinds : ℕ → List Kind) (program : Program) (history : List Event) → IsProgram kinds program → All IsUnborn program.queries → All (λ event. IsSound event.tuple) history
    → All (λ query. (by : Derivation) (tuple : TupleView) → Derives program history query.expr by tuple → Contains (derived_env program history query.stream) (record { tuple = tuple; by = by })) program.queries
deriving_is_listed kinds program history typed unborn sound = λ k d lt by tuple derives.
    let query = get_or program.queries k d in
    let same = published_derived kinds program history typed query.stream query.expr (own_stream program k d lt) in
    subst (λ (list : List DerivedTuple). Contains list (record { tuple = tuple; by = by })) (sym same) (derived_are_listed kinds program history typed unborn sound derives)
