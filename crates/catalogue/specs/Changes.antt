-- Programs to which a query comes, and from which one leaves.
use Rattle.std.specs.Prelude.{◌≡◌, ◌≢◌, ℕ, ◌<◌, ◌==◌, Bool, not, List, [], ◌∷◌, ◌++◌, map, Contains}
use Rattle.std.specs.List.{All, filter, range_with_len}
use Rattle.event_types.specs.declared.kind.Kind.{Kind}
use Rattle.semantics.specs.Programs.{Program, Query}
use Rattle.semantics.specs.Reading.{ReadsOnly}
use Rattle.semantics.specs.Typing.{IsTypedOver}
use Rattle.splitter.specs.Chains.{LeavesHidden}
use Rattle.splitter.specs.ProgramLaws.{IsWideProgram}
use Rattle.splitter.specs.SourceWidths.{HasWidths}

-- the streams that a program declares, and those that its queries publish in the order of work
abbrev pub streams_there : Program → List ℕ
streams_there program = range_with_len 0 program.declared ++ map (λ (query : Query). query.stream) program.order

-- the program with a query more, which is the last one
abbrev pub with_query : Program → Query → Program
with_query program query = record program { queries = program.queries ++ query ∷ []; order = program.order ++ query ∷ [] }

-- whether a query publishes another stream
abbrev pub publishes_another : ℕ → Query → Bool
publishes_another stream query = not (query.stream == stream)

-- the program without the query that publishes a stream
abbrev pub without_query : Program → ℕ → Program
without_query program stream = record program { queries = filter (publishes_another stream) program.queries; order = filter (publishes_another stream) program.order }

-- a query reads none but streams that are there, is typed over them, and publishes a stream behind them, and hides others behind this one and all that were hidden
pub record MayCome (kinds : ℕ → List Kind) (program : Program) (query : Query) : Type 0 where
  pub behind : All (λ stream. stream < query.stream) (streams_there program)
  pub reads : ReadsOnly (Contains (streams_there program)) query.expr
  pub typed : IsTypedOver query.expr query.stream kinds (kinds query.stream)
  pub wide : HasWidths kinds query.expr
  pub hides : query.stream < query.hidden
  pub apart : All (λ earlier. LeavesHidden earlier query) program.order

-- a typed program is one over other kinds too, where the streams below a number have the same ones and its queries publish none but these
abbrev pub ProgramsKeepKinds : Type 0
ProgramsKeepKinds =
    (kinds others : ℕ → List Kind) (program : Program) (bound : ℕ) → ((stream : ℕ) → stream < bound → kinds stream ≡ others stream) → All (λ query. query.stream < bound) program.order
    → IsWideProgram kinds program → IsWideProgram others program

-- a typed program to which such a query comes is one
abbrev pub ProgramsTakeQueries : Type 0
ProgramsTakeQueries = (kinds : ℕ → List Kind) (program : Program) (query : Query) → IsWideProgram kinds program → MayCome kinds program query → IsWideProgram kinds (with_query program query)

-- a typed program from which a query leaves whose stream none reads is one
abbrev pub ProgramsLoseQueries : Type 0
ProgramsLoseQueries =
    (kinds : ℕ → List Kind) (program : Program) (stream : ℕ) → IsWideProgram kinds program → All (λ query. ReadsOnly (λ read. read ≢ stream) query.expr) program.order → IsWideProgram kinds (without_query program stream)
