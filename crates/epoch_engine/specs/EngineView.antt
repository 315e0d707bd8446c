-- What contracts see of an engine.
use Rattle.std.specs.Prelude.{ℕ, List, [], Option, slice_index_or}
use Rattle.event_types.specs.Tuple.{TupleView}
use Rattle.instances.specs.declared.instance.Instance.{Instance}
use Rattle.automaton.specs.States.{Net}
use Rattle.automaton.specs.declared.layout.Layout.{Layout}
use Rattle.epoch_laws.specs.Closing.{Stores}

-- an engine: its network and layout, the instances of each state by its number, the open tuples of each stream, the open epoch and the last closed time
pub record EngineView : Type 0 where
  pub network : Net
  pub layout : Layout
  pub stores : List (List Instance)
  pub opened : List (List TupleView)
  pub time : Option ℕ
  pub closed_time : Option ℕ

-- the instances of each state, by its number
abbrev pub stores_in : EngineView → Stores
stores_in engine number = slice_index_or engine.stores number []
