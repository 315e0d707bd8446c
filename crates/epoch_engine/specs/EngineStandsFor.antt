-- When an engine stands for a history.
use Rattle.std.specs.Prelude.{◌≡◌, ℕ, All, List, [], None, length}
use Rattle.semantics.specs.Denotation.{streams_of}
use Rattle.semantics.specs.Histories.{Event}
use Rattle.automaton.specs.States.{wait_at}
use Rattle.prefix_merge.specs.Merging.{IsMerged}
use Rattle.epoch_laws.specs.Births.{IsNoLater}
use Rattle.epoch_laws.specs.BornLines.{BornLine}
use Rattle.epoch_laws.specs.Standing as standing
use Rattle.epoch_laws.specs.StoresStandFor.{Serves}
use Rattle.epoch_engine.specs.EngineView.{EngineView, stores_in}

-- an engine stands for lines with births and a history: its network is merged and has exactly these lines, its order of work is one for them, nothing is stored where no state waits, each stream that has kinds has a list of open tuples, no birth is later than the last closed time, and its parts are those that the history asks for
pub record EngineStandsFor (engine : EngineView) (lines : List BornLine) (history : List Event) : Type 0 where
  pub merged : IsMerged engine.network
  pub serves : Serves engine.network lines engine.layout.order
  pub as_many : length engine.opened ≡ length engine.layout.kinds
  pub births : All (λ born. IsNoLater born.birth engine.closed_time) lines
  pub none_elsewhere : (number : ℕ) → wait_at engine.network number ≡ None → stores_in engine number ≡ []
  pub stands : standing.PartsStandFor engine.network lines engine.layout.order (stores_in engine) engine.time (streams_of engine.opened) engine.closed_time history
