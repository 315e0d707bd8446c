-- Laws over the lines of programs.
use Rattle.std.specs.Prelude.{◌≡◌, ℕ, ◌<◌, List}
use Rattle.std.specs.List.{All}
use Rattle.std.specs.List.Sorted.{IsPermutation}
use Rattle.event_types.specs.declared.kind.Kind.{Kind}
use Rattle.semantics.specs.Histories.{Event}
use Rattle.semantics.specs.Programs.{IsUnborn, Program, declared_streams, env}
use Rattle.semantics.specs.TypedPrograms.{HaveTheirKinds, IsProgram}
use Rattle.automaton.specs.declared.layout.Layout.{Layout}
use Rattle.automaton.specs.declared.line.Line.{Line}
use Rattle.automaton.specs.Layouts.{LayoutFits}
use Rattle.automaton.specs.NetworkLines.{NetworkFits}
use Rattle.automaton.specs.Plain.{IsPlain}
use Rattle.automaton.specs.States.{Net}
use Rattle.automaton.specs.Work.{IsInOrder, completed}
use Rattle.splitter.specs.Chains.{HideApart, lines_of, work_order}
use Rattle.splitter.specs.SourceWidths.{HasWidths}

-- a program over streams of these kinds, whose projections have the widths of their sources, and whose queries hide streams apart
pub record IsWideProgram (kinds : ℕ → List Kind) (program : Program) : Type 0 where
  pub typed : IsProgram kinds program
  pub wide : All (λ query. HasWidths kinds query.expr) program.order
  pub apart : HideApart program.order

-- the lines of a program whose queries hide streams apart are in the order of work
abbrev pub ChainsAreInOrder : Type 0
ChainsAreInOrder = (kinds : ℕ → List Kind) (program : Program) → IsProgram kinds program → HideApart program.order → IsInOrder (lines_of program) (work_order program)

-- where no query has a birth, over events of their streams' kinds, each declared and each published stream is by the lines exactly what it is by the program
abbrev pub ChainsMeanTheirProgram : Type 0
ChainsMeanTheirProgram =
    (kinds : ℕ → List Kind) (program : Program) (history : List Event) → IsWideProgram kinds program → All IsUnborn program.order → HaveTheirKinds kinds history
    → ((stream : ℕ) → stream < program.declared → completed (lines_of program) (work_order program) (declared_streams program.declared history) stream ≡ env program history stream)
    × All (λ query. completed (lines_of program) (work_order program) (declared_streams program.declared history) query.stream ≡ env program history query.stream) program.queries

-- so each query's stream is a permutation of what it is by the program
abbrev pub QueriesAreDerived : Type 0
QueriesAreDerived =
    (kinds : ℕ → List Kind) (program : Program) (history : List Event) → IsWideProgram kinds program → All IsUnborn program.order → HaveTheirKinds kinds history
    → All (λ query. IsPermutation (completed (lines_of program) (work_order program) (declared_streams program.declared history) query.stream) (env program history query.stream)) program.queries

-- a layout that fits lines fits their plain network
abbrev pub PlainNetworksFit : Type 0
PlainNetworksFit = (lines : List Line) (layout : Layout) (net : Net) → LayoutFits lines layout → IsPlain lines net → NetworkFits net layout
