-- What an evaluator gives at the end of an epoch.
use Rattle.std.specs.Prelude.{◌≡◌, ℕ, ◌≤◌, ◌==◌, List, map}
use Rattle.std.specs.List.{All, filter}
use Rattle.event_types.specs.Order.{sorted}
use Rattle.event_types.specs.Tuple.{TupleView}
use Rattle.semantics.specs.Denotation.{streams_of}
use Rattle.semantics.specs.Histories.{Event}
use Rattle.semantics.specs.Programs.{published}
use Rattle.semantics.specs.Results.{results}
use Rattle.reference.specs.declared.query.Query.{Query}
use Rattle.reference.specs.Hearing.{HasHeard}
use Rattle.reference.specs.Views.{placed, program_of}

-- for each query the tuples of a time, in their order, of its stream among the lists behind which the queries publish in the order of the places
abbrev pub published_at : List (List TupleView) → List Query → List ℕ → ℕ → List (List TupleView)
published_at lists queries places time =
    map (λ query. sorted (filter (λ tuple. tuple.at == time) (published (streams_of lists) (placed queries places) query.stream))) queries

-- whatever events the lists have heard, none after a time: the lists given are the results of each query at that time
abbrev pub AreResultsOfEach : List Query → List ℕ → ℕ → List (List TupleView) → List (List TupleView) → Type 0
AreResultsOfEach queries places time lists batch =
    (declared : ℕ) (history : List Event) → HasHeard declared history lists → All (λ event. event.tuple.at ≤ time) history
    → batch ≡ map (λ query. results (program_of declared queries places) history query.stream time) queries
