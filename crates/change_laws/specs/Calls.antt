-- What an engine asks of lines that come to it and of ends that leave it, and what comes to a catalogue and its engine together.
use Rattle.std.specs.Prelude.{◌≡◌, ◌≢◌, ◌<◌, ℕ, List, length, AllPairs, None}
use Rattle.std.specs.List.{All}
use Rattle.automaton.specs.declared.growth.Growth.{Growth}
use Rattle.automaton.specs.declared.growth.Shrinkage.{Shrinkage}
use Rattle.automaton.specs.declared.line.Line.{Line}
use Rattle.automaton.specs.Layouts.{HasPart, grown, shrunk}
use Rattle.catalogue.specs.declared.adding.Added.{Added}
use Rattle.catalogue.specs.declared.dropping.Dropped.{Dropped}
use Rattle.catalogue.specs.Adding.{AddedQuery}
use Rattle.catalogue.specs.Catalogued.{Catalogued}
use Rattle.catalogue.specs.Coming.{HasCome, IsTold, coming}
use Rattle.catalogue.specs.Leaving.{IsLeft, IsUnread}
use Rattle.epoch_engine.specs.Adding.{Adds, Drops, FitsWith, FitsWithout}
use Rattle.epoch_engine.specs.EngineView.{EngineView}
use Rattle.prefix_merge.specs.Merging.{HasEnd}

-- lines may come to an engine with these ends, and its layout grow so: each line has its end, no two ends are one and none is there; and the layout fits the network with the lines then
pub record MayBeAdded (lines : List Line) (ends : List ℕ) (growth : Growth) (engine : EngineView) : Type 0 where
  pub as_many : length ends ≡ length lines
  pub apart : AllPairs (λ end other. end ≢ other) ends
  pub fresh : All (λ end. HasEnd engine.network end → ⊥) ends
  pub fits : FitsWith engine.network lines (grown engine.layout growth)

-- ends may leave an engine, and its layout lose this part: no two are one and all are there; the layout has the part; and without it it fits the network without their lines
pub record MayBeRemoved (ends : List ℕ) (part : Shrinkage) (engine : EngineView) : Type 0 where
  pub apart : AllPairs (λ end other. end ≢ other) ends
  pub there : All (HasEnd engine.network) ends
  pub has_part : HasPart engine.layout part
  pub fits : FitsWithout engine.network ends (shrunk engine.layout part)

-- a query came to a catalogue, born at the last closed time of an engine with no open epoch, and its lines came to the engine
pub record ComesToBoth (added : AddedQuery) (told : Added) (old new : Catalogued) (before after : EngineView) : Type 0 where
  pub closed : before.time ≡ None
  pub come : HasCome old added before.closed_time new
  pub is_told : IsTold old (coming old added before.closed_time) new told
  pub adds : Adds told.lines told.ends before.closed_time (grown before.layout told.growth) before after

-- the query with a number, which none reads, left a catalogue, and its ends left an engine with no open epoch
pub record LeavesBoth (number : ℕ) (dropped : Dropped) (old new : Catalogued) (before after : EngineView) : Type 0 where
  pub closed : before.time ≡ None
  pub within : number < length old.order
  pub unread : IsUnread old number
  pub left : IsLeft number dropped old new
  pub drops : Drops dropped.ends (shrunk before.layout dropped.part) before after
