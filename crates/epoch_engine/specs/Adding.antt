-- Lines that come to an engine and leave it.
use Rattle.std.specs.Prelude.{◌≡◌, ℕ, if◌then◌else◌, List, [], ◌++◌, length, map, not, Option, None, Some, is_some, slice_get}
use Rattle.std.specs.List.{filter}
use Rattle.event_types.specs.declared.kind.Kind.{Kind}
use Rattle.semantics.specs.Denotation.{streams_of}
use Rattle.automaton.specs.Layouts.{LayoutFits}
use Rattle.automaton.specs.NetworkLines.{Ending, HasEndings, HasLines, NetworkFits}
use Rattle.automaton.specs.States.{Net, wait_at}
use Rattle.automaton.specs.declared.layout.Layout.{Layout}
use Rattle.automaton.specs.declared.line.Line.{Line}
use Rattle.prefix_merge.specs.Merging.{IsMerged}
use Rattle.prefix_merge.specs.Turns.{InsertsAll, RemovesAll, is_among}
use Rattle.epoch_engine.specs.EngineView.{EngineView, stores_in}

-- the new kinds of streams begin with all the old ones
abbrev pub BeginAs : List (List Kind) → List (List Kind) → Type 0
BeginAs old new = (stream : ℕ) (known : List Kind) → slice_get old stream ≡ Some known → slice_get new stream ≡ Some known

-- a layout fits a network that these lines came to
abbrev pub FitsWith : Net → List Line → Layout → Type 0
FitsWith net lines layout = (held : List Line) × HasLines net held × LayoutFits (held ++ lines) layout

-- a layout fits a network that the lines of these ends left
abbrev pub FitsWithout : Net → List ℕ → Layout → Type 0
FitsWithout net ends layout = (held : List Ending) × HasEndings net held × LayoutFits (map (λ ending. ending.line) (filter (λ ending. not (is_among ends ending.number)) held)) layout

-- an engine goes over to a layout that fits its network, with no open epoch and no open tuples, and its last closed time stays
pub record GoesOver (layout : Layout) (old new : EngineView) : Type 0 where
  pub merged : IsMerged new.network
  pub same_layout : new.layout ≡ layout
  pub fits : NetworkFits new.network layout
  pub opened : (stream : ℕ) → streams_of new.opened stream ≡ []
  pub as_many : length new.opened ≡ length layout.kinds
  pub none_open : new.time ≡ None
  pub same_closed : new.closed_time ≡ old.closed_time

-- lines came to an engine, with one birth and with ends of these numbers; the instances of each state are the same
pub record Adds (lines : List Line) (ends : List ℕ) (since : Option ℕ) (layout : Layout) (old new : EngineView) : Type 0 where
  pub goes_over : GoesOver layout old new
  pub inserted : InsertsAll lines ends since old.network new.network
  pub stores : (number : ℕ) → stores_in new number ≡ stores_in old number

-- the lines of these ends left an engine; the instances of the waiting states that are left are the same, and no others are there
pub record Drops (ends : List ℕ) (layout : Layout) (old new : EngineView) : Type 0 where
  pub goes_over : GoesOver layout old new
  pub removed : RemovesAll ends old.network new.network
  pub stores : (number : ℕ) → stores_in new number ≡ (if is_some (wait_at new.network number) then stores_in old number else [])
