-- Laws of the lines that come to an engine and leave it.
use Rattle.std.specs.Prelude.{◌≡◌, ℕ, false, not, List, ◌++◌, length, map, Option, None, IsTrue, slice_get}
use Rattle.std.specs.List.{All, filter}
use Rattle.semantics.specs.Histories.{Event}
use Rattle.automaton.specs.Layouts.{LayoutFits}
use Rattle.automaton.specs.NetworkLines.{Ending, HasEndings}
use Rattle.automaton.specs.States.{Net}
use Rattle.automaton.specs.Work.{ReadsNone, is_in}
use Rattle.automaton.specs.declared.layout.Layout.{Layout}
use Rattle.automaton.specs.declared.line.Line.{Line}
use Rattle.prefix_merge.specs.Merging.{IsMerged}
use Rattle.prefix_merge.specs.Turns.{is_among}
use Rattle.epoch_laws.specs.BornLines.{BornLine, HasBornLines, born_by, lines_in}
use Rattle.epoch_engine.specs.Adding.{Adds, Drops}
use Rattle.epoch_engine.specs.EngineStandsFor.{EngineStandsFor}
use Rattle.epoch_engine.specs.EngineView.{EngineView}

-- a line with a birth
abbrev pub born_at : Option ℕ → Line → BornLine
born_at birth line = record { line = line; birth = birth }

-- a merged network has the lines of its endings with their births, and no others
abbrev pub BornLinesAreItsOwn : Type 0
BornLinesAreItsOwn = (net : Net) (endings : List Ending) → IsMerged net → HasEndings net endings → HasBornLines net (map born_by endings)

-- an engine to which lines came has them with their birth beside those that it had
abbrev pub AddedLinesAreThere : Type 0
AddedLinesAreThere =
    (lines : List Line) (ends : List ℕ) (since : Option ℕ) (layout : Layout) (old new : EngineView) (had : List BornLine)
    → length ends ≡ length lines → Adds lines ends since layout old new → HasBornLines old.network had → HasBornLines new.network (had ++ map (born_at since) lines)

-- the endings that stay where the ends of these numbers go
abbrev pub staying : List ℕ → List Ending → List Ending
staying ends endings = filter (λ ending. not (is_among ends ending.number)) endings

-- and those that go
abbrev pub going : List ℕ → List Ending → List Ending
going ends endings = filter (λ ending. is_among ends ending.number) endings

-- an engine that ends left has the lines of the other ends, with their births
abbrev pub OtherLinesStay : Type 0
OtherLinesStay =
    (ends : List ℕ) (layout : Layout) (old new : EngineView) (endings : List Ending)
    → Drops ends layout old new → HasEndings old.network endings → HasBornLines new.network (map born_by (staying ends endings))

-- a layout fits some lines, and another one these and the lines that come; an out stream that comes into its order had no kinds before
pub record LayoutGrows (had lines : List Line) (old new : Layout) : Type 0 where
  pub fits : LayoutFits had old
  pub fits_all : LayoutFits (had ++ lines) new
  pub unknown : (stream : ℕ) → IsTrue (is_in new.order stream) → is_in old.order stream ≡ false → slice_get old.kinds stream ≡ None

-- an engine that stands for lines and a history with no epoch open, and to which lines came that were born at its last closed time, stands for all of them and the same history
abbrev pub AddedStands : Type 0
AddedStands =
    (lines : List Line) (ends : List ℕ) (since : Option ℕ) (layout : Layout) (old new : EngineView) (had : List BornLine) (history : List Event)
    → EngineStandsFor old had history → old.time ≡ None → since ≡ old.closed_time → length ends ≡ length lines → Adds lines ends since layout old new
    → LayoutGrows (lines_in had) lines old.layout layout → EngineStandsFor new (had ++ map (born_at since) lines) history

-- no line that stays begins in, or waits on, an out stream of a line that goes
abbrev pub ReadNoneThatGoes : List ℕ → List Ending → Type 0
ReadNoneThatGoes ends endings = All (λ ending. ReadsNone (map (λ gone. gone.line.out) (going ends endings)) ending.line) (staying ends endings)

-- a layout fits the lines of all endings, and another one those of the endings that stay
pub record LayoutShrinks (ends : List ℕ) (endings : List Ending) (old new : Layout) : Type 0 where
  pub fits : LayoutFits (map (λ ending. ending.line) endings) old
  pub fits_left : LayoutFits (map (λ ending. ending.line) (staying ends endings)) new

-- an engine that stands for lines and a history with no epoch open, and that ends left whose out streams no other line reads, stands for the lines that stay and the same history
abbrev pub DroppedStands : Type 0
DroppedStands =
    (ends : List ℕ) (layout : Layout) (old new : EngineView) (endings : List Ending) (history : List Event)
    → EngineStandsFor old (map born_by endings) history → HasEndings old.network endings → old.time ≡ None → Drops ends layout old new
    → LayoutShrinks ends endings old.layout layout → ReadNoneThatGoes ends endings → EngineStandsFor new (map born_by (staying ends endings)) history
