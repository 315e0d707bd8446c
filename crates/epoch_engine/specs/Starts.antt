-- An engine that has heard nothing.
use Rattle.std.specs.Prelude.{◌≡◌, ℕ, [], length, None}
use Rattle.semantics.specs.Denotation.{streams_of}
use Rattle.automaton.specs.States.{Net}
use Rattle.automaton.specs.declared.layout.Layout.{Layout}
use Rattle.prefix_merge.specs.Merging.{IsMerged}
use Rattle.epoch_engine.specs.EngineView.{EngineView, stores_in}

-- an engine over this merged network and this layout, with empty stores, an empty list of open tuples for each stream, no open epoch and no closed one
pub record IsNew (net : Net) (layout : Layout) (engine : EngineView) : Type 0 where
  pub network : engine.network ≡ net
  pub merged : IsMerged net
  pub same_layout : engine.layout ≡ layout
  pub stores : (number : ℕ) → stores_in engine number ≡ []
  pub opened : (stream : ℕ) → streams_of engine.opened stream ≡ []
  pub as_many : length engine.opened ≡ length layout.kinds
  pub none_open : engine.time ≡ None
  pub none_closed : engine.closed_time ≡ None
