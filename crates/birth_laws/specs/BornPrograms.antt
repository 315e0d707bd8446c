-- Laws over the lines of programs whose queries came at different times.
use Rattle.std.specs.Prelude.{◌≡◌, ℕ, ◌<◌, false, List, map, Option}
use Rattle.std.specs.List.{All}
use Rattle.event_types.specs.declared.kind.Kind.{Kind}
use Rattle.event_types.specs.Tuple.{IsSound}
use Rattle.semantics.specs.Births.{streams_after}
use Rattle.semantics.specs.Denotation.{Streams, denote}
use Rattle.semantics.specs.Expressions.{Ex}
use Rattle.semantics.specs.Histories.{Event}
use Rattle.semantics.specs.Programs.{IsUnborn, Program, declared_streams, env}
use Rattle.semantics.specs.TypedPrograms.{HaveTheirKinds}
use Rattle.automaton.specs.Work.{is_in}
use Rattle.epoch_laws.specs.Births.{AreSound}
use Rattle.epoch_laws.specs.BornLines.{lines_in, unborn}
use Rattle.epoch_laws.specs.InstanceFlow.{completed_after}
use Rattle.splitter.specs.Chains.{lines_of, work_order}
use Rattle.splitter.specs.Laws.{IsApart, split_order}
use Rattle.splitter.specs.ProgramLaws.{IsWideProgram}
use Rattle.splitter.specs.Widths.{MeetWidths}
use Rattle.birth_laws.specs.BornChains.{born_lines, born_split}

-- without their births they are the lines of the program; and where all queries were there from the start, they are its lines without births
abbrev pub BornLinesAreTheLines : Type 0
BornLinesAreTheLines = (program : Program) → (lines_in (born_lines program) ≡ lines_of program) × (All IsUnborn program.order → born_lines program ≡ map unborn (lines_of program))

-- over sound streams the lines of an expression, all with one birth, publish on the stream exactly what it denotes over the streams cut at the birth, and change no stream but this one and the hidden ones
abbrev pub BornLinesMeanTheirExpression : Type 0
BornLinesMeanTheirExpression =
    (birth : Option ℕ) (e : Ex) (out next : ℕ) (streams : Streams) → AreSound streams → IsApart e out next → MeetWidths e (streams_after birth streams)
    → (completed_after (born_split birth e out next) (split_order e out next) streams out ≡ denote e (streams_after birth streams))
    × ((stream : ℕ) → is_in (split_order e out next) stream ≡ false → completed_after (born_split birth e out next) (split_order e out next) streams stream ≡ streams stream)

-- over sound events of their streams' kinds, each declared and each published stream is by the lines with their births exactly what it is by the program
abbrev pub BornLinesMeanTheirProgram : Type 0
BornLinesMeanTheirProgram =
    (kinds : ℕ → List Kind) (program : Program) (history : List Event) → IsWideProgram kinds program → HaveTheirKinds kinds history → All (λ event. IsSound event.tuple) history
    → ((stream : ℕ) → stream < program.declared → completed_after (born_lines program) (work_order program) (declared_streams program.declared history) stream ≡ env program history stream)
    × All (λ query. completed_after (born_lines program) (work_order program) (declared_streams program.declared history) query.stream ≡ env program history query.stream) program.queries
