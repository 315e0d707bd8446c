-- Laws over queries that are evaluated.
use Rattle.std.specs.Prelude.{ℕ, List}
use Rattle.event_types.specs.declared.kind.Kind.{Kind}
use Rattle.event_types.specs.Tuple.{TupleView}
use Rattle.semantics.specs.Denotation.{streams_of}
use Rattle.semantics.specs.Histories.{Event}
use Rattle.semantics.specs.TypedPrograms.{HaveTheirKinds, IsProgram}
use Rattle.algebra.specs.SuitedQueries.{SuitInTurn}
use Rattle.reference.specs.declared.query.Query.{Query}
use Rattle.reference.specs.Hearing.{HasHeard}
use Rattle.reference.specs.Views.{placed, program_of}

-- where the queries are a typed program and the events have their streams' kinds, each query suits in turn over what was heard
abbrev pub TypedQueriesSuit : Type 0
TypedQueriesSuit =
    (kinds : ℕ → List Kind) (declared : ℕ) (queries : List Query) (places : List ℕ) (history : List Event) (lists : List (List TupleView))
    → IsProgram kinds (program_of declared queries places) → HaveTheirKinds kinds history → HasHeard declared history lists
    → SuitInTurn (streams_of lists) (placed queries places)
