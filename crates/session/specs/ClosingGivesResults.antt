-- Laws of what the closing of an epoch gives for the queries of a program.
use Rattle.std.specs.Prelude.{◌≡◌, ℕ, ◌<◌, List, length}
use Rattle.std.specs.List.{All}
use Rattle.event_types.specs.declared.kind.Kind.{Kind}
use Rattle.event_types.specs.Tuple.{TupleView}
use Rattle.semantics.specs.Histories.{Event}
use Rattle.semantics.specs.Programs.{Program}
use Rattle.semantics.specs.Results.{results}
use Rattle.semantics.specs.TypedPrograms.{HaveTheirKinds}
use Rattle.birth_laws.specs.BornChains.{born_lines}
use Rattle.splitter.specs.Chains.{outs_of, work_order}
use Rattle.splitter.specs.ProgramLaws.{IsWideProgram}
use Rattle.cel_types.specs.SourceLaws.{kinds_in}
use Rattle.catalogue.specs.Catalogued.{Catalogued, program_in}
use Rattle.catalogue.specs.Judgement.{Accepts, Judged, program_of}
use Rattle.catalogue.specs.Standing.{IsLayoutOver, StandsInOrder}
use Rattle.epoch_engine.specs.Closes.{Closes}
use Rattle.epoch_engine.specs.EngineStandsFor.{EngineStandsFor}
use Rattle.epoch_engine.specs.EngineView.{EngineView}
use Rattle.epoch_engine.specs.Results.{results_of}
use Rattle.session.specs.SessionView.{AreDeclared}
use Rattle.session.specs.UnbornLines.{unborn_lines}

-- an engine that has the order of work and the printed streams of a program, and stands for its lines, each with the birth of its query, and for events of their streams' kinds on declared streams, closes its epoch with the streams of the queries that have results at its time, in the order of the file and then of addition, each with these
abbrev pub ClosingGivesResults : Type 0
ClosingGivesResults =
    (kinds : ℕ → List Kind) (program : Program) (old new : EngineView) (history : List Event) (batch : List (ℕ × List TupleView)) → IsWideProgram kinds program
    → old.layout.order ≡ work_order program → old.layout.outs ≡ outs_of program → EngineStandsFor old (born_lines program) history
    → HaveTheirKinds kinds history → All (λ event. event.stream < program.declared) history
    → (closes : Closes old new batch) → batch ≡ results_of (outs_of program) (λ stream. results program history stream closes.time)

-- so does an engine of a catalogue, whatever queries came and left
abbrev pub ClosingGivesResultsOfCatalogue : Type 0
ClosingGivesResultsOfCatalogue =
    (c : Catalogued) (old new : EngineView) (history : List Event) (batch : List (ℕ × List TupleView)) → StandsInOrder c
    → IsLayoutOver c.streams (program_in c) old.layout → EngineStandsFor old (born_lines (program_in c)) history → AreDeclared c history
    → (closes : Closes old new batch) → batch ≡ results_of (outs_of (program_in c)) (λ stream. results (program_in c) history stream closes.time)

-- and so does an engine of an accepted text, whose queries were there from the start
abbrev pub ClosingGivesResultsOfText : Type 0
ClosingGivesResultsOfText =
    (text : List ℕ) (judged : Judged) (old new : EngineView) (history : List Event) (batch : List (ℕ × List TupleView)) → Accepts text judged
    → old.layout.order ≡ work_order (program_of judged) → old.layout.outs ≡ outs_of (program_of judged) → EngineStandsFor old (unborn_lines (program_of judged)) history
    → HaveTheirKinds (kinds_in judged.streams) history → All (λ event. event.stream < length judged.declared) history
    → (closes : Closes old new batch) → batch ≡ results_of (outs_of (program_of judged)) (λ stream. results (program_of judged) history stream closes.time)
