-- Laws over what expressions denote.
use Rattle.std.specs.Prelude.{ℕ, List}
use Rattle.std.specs.List.{All}
use Rattle.event_types.specs.declared.kind.Kind.{Kind}
use Rattle.event_types.specs.Tuple.{IsSound}
use Rattle.semantics.specs.Expressions.{Ex}
use Rattle.semantics.specs.Histories.{Event}
use Rattle.semantics.specs.Denotation.{Streams, denote}
use Rattle.semantics.specs.Kinds.{HasKinds, HaveKinds}
use Rattle.semantics.specs.Programs.{Program, declared_streams, env}
use Rattle.semantics.specs.TypedPrograms.{HaveTheirKinds, IsProgram}
use Rattle.semantics.specs.Typing.{IsTypedOver}
use Rattle.algebra.specs.SuitedQueries.{SuitInTurn}
use Rattle.algebra.specs.Suits.{Suits}

-- an expression that is typed over the kinds of the streams may be evaluated over them, and its tuples have its kinds
abbrev pub TypedSuits : Type 0
TypedSuits =
    (e : Ex) (count : ℕ) (kinds : ℕ → List Kind) (out : List Kind) (streams : Streams) → HaveKinds kinds count streams → IsTypedOver e count kinds out → Suits e count streams × All (HasKinds out) (denote e streams)

-- where no tuple of the streams starts after its detection, no tuple that is denoted does
abbrev pub SoundStreamsGiveSoundTuples : Type 0
SoundStreamsGiveSoundTuples = (e : Ex) (streams : Streams) → ((stream : ℕ) → All IsSound (streams stream)) → All IsSound (denote e streams)

-- over events of their streams' kinds each query of a typed program may be evaluated in its turn, and each stream has tuples of its kinds
abbrev pub TypedProgramsSuit : Type 0
TypedProgramsSuit =
    (kinds : ℕ → List Kind) (program : Program) (history : List Event) → IsProgram kinds program → HaveTheirKinds kinds history
    → SuitInTurn (declared_streams program.declared history) program.order × ((stream : ℕ) → All (HasKinds (kinds stream)) (env program history stream))
