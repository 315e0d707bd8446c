-- Programs whose queries are typed over the streams before them.
use Rattle.std.specs.Prelude.{⊤, ℕ, ◌<◌, List, [], ◌∷◌, ◌++◌, Contains}
use Rattle.std.specs.List.{All, range_with_len}
use Rattle.std.specs.List.Sorted.{IsPermutation}
use Rattle.event_types.specs.declared.kind.Kind.{Kind}
use Rattle.semantics.specs.Histories.{Event}
use Rattle.semantics.specs.Kinds.{HasKinds}
use Rattle.semantics.specs.Programs.{Program, Query}
use Rattle.semantics.specs.Reading.{ReadsOnly}
use Rattle.semantics.specs.Typing.{IsTypedOver}

-- where these streams are there, each query in turn publishes a stream with a greater number than all of them, reads none but them, and gives tuples of its kinds; then its stream is there too
abbrev pub PublishInTurn : (ℕ → List Kind) → List ℕ → List Query → Type 0
PublishInTurn kinds there [] = ⊤
PublishInTurn kinds there (query ∷ order) =
    All (λ stream. stream < query.stream) there × ReadsOnly (Contains there) query.expr × IsTypedOver query.expr query.stream kinds (kinds query.stream)
    × PublishInTurn kinds (there ++ query.stream ∷ []) order

-- over streams of these kinds it is a program: the order of work has the queries of the file, and in this order each publishes a stream behind the declared ones and those before it
pub record IsProgram (kinds : ℕ → List Kind) (program : Program) : Type 0 where
  pub same_queries : IsPermutation program.queries program.order
  pub in_turn : PublishInTurn kinds (range_with_len 0 program.declared) program.order

-- each event has the kinds of its stream
abbrev pub HaveTheirKinds : (ℕ → List Kind) → List Event → Type 0
HaveTheirKinds kinds history = All (λ event. HasKinds (kinds event.stream) event.tuple) history
