-- What the closing of an epoch makes of an engine.
use Rattle.std.specs.Prelude.{◌≡◌, ℕ, ◌+◌, List, [], length, Some, None}
use Rattle.std.specs.List.Sorted.{IsPermutation}
use Rattle.event_types.specs.Order.{sorted}
use Rattle.event_types.specs.Tuple.{TupleView}
use Rattle.instances.specs.Bounds.{alive_instances}
use Rattle.semantics.specs.Denotation.{Streams, streams_of}
use Rattle.automaton.specs.States.{Net, wait_at}
use Rattle.automaton.specs.declared.layout.Layout.{Layout}
use Rattle.automaton.specs.declared.wait.Wait.{Wait}
use Rattle.epoch_laws.specs.Closing.{IsEpoch, Stores, stores_after}
use Rattle.epoch_engine.specs.EngineView.{EngineView, stores_in}
use Rattle.epoch_engine.specs.Results.{results_of}

-- each store was purged for a time in whole: up to order, it has exactly the instances that are alive then
abbrev pub ArePurgedWhole : ℕ → Net → Stores → Stores → Type 0
ArePurgedWhole time net stores kept = (number : ℕ) (wait : Wait) → wait_at net number ≡ Some wait → IsPermutation (kept number) (alive_instances time wait.choose (stores number))

-- the epoch of a time over stores and open tuples: its tuples `news` are those that were heard and derived, the batch has those of each printed stream that has some, in their order, the stores are stepped through the epoch and purged for the next time, and where no state waits what is stored is the same
pub record IsTaken (net : Net) (layout : Layout) (time : ℕ) (stores : Stores) (heard : Streams) (after : Stores) (batch : List (ℕ × List TupleView)) : Type 0 where
  pub news : Streams
  pub epoch : IsEpoch net layout.order stores heard news
  pub results : batch ≡ results_of layout.outs (λ stream. sorted (news stream))
  pub purged : ArePurgedWhole (time + 1) net (stores_after net news stores) after
  pub others : (number : ℕ) → wait_at net number ≡ None → after number ≡ stores number

-- an engine closed its open epoch: the epoch was taken, none is open now and no tuple is, and its time is the last closed one
pub record Closes (old new : EngineView) (batch : List (ℕ × List TupleView)) : Type 0 where
  pub time : ℕ
  pub was_open : old.time ≡ Some time
  pub taken : IsTaken old.network old.layout time (stores_in old) (streams_of old.opened) (stores_in new) batch
  pub emptied : (stream : ℕ) → streams_of new.opened stream ≡ []
  pub as_many : length new.opened ≡ length old.opened
  pub now_closed : new.closed_time ≡ Some time
  pub none_open : new.time ≡ None

-- the network and the layout are the same
pub record KeepsPlan (old new : EngineView) : Type 0 where
  pub network : new.network ≡ old.network
  pub layout : new.layout ≡ old.layout

-- the open epoch and the last closed time are the same
pub record KeepsTimes (old new : EngineView) : Type 0 where
  pub time : new.time ≡ old.time
  pub closed_time : new.closed_time ≡ old.closed_time
