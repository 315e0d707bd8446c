-- When the stores of a network stand for a history.
use Rattle.std.specs.Prelude.{ℕ, ◌<◌, List}
use Rattle.std.specs.List.{All}
use Rattle.event_types.specs.Tuple.{IsSound}
use Rattle.semantics.specs.Histories.{Event}
use Rattle.automaton.specs.Networks.{IsAt}
use Rattle.automaton.specs.Prefixes.{Prefix, After}
use Rattle.automaton.specs.States.{Net}
use Rattle.automaton.specs.Work.{IsInOrder}
use Rattle.automaton.specs.declared.line.Hop.{Hop}
use Rattle.epoch_laws.specs.BornLines.{BornLine, HasBornLines, IsReadAfter, lines_in}
use Rattle.epoch_laws.specs.Closing.{Stores}
use Rattle.epoch_laws.specs.Histories.{streams_over}
use Rattle.epoch_laws.specs.InstanceFlow.{waiting_instances}
use Rattle.epoch_laws.specs.Stores.{Purged}

-- a network has these lines with these births, and the order of work is one for them
pub record Serves (net : Net) (lines : List BornLine) (order : List ℕ) : Type 0 where
  pub has_lines : HasBornLines net lines
  pub in_order : IsInOrder (lines_in lines) order

-- all events of a history are detected before a time; at each waiting state the store has the instances that wait, purged for that time and for the births of the lines that use the state, in whole, in part or not at all
pub record StoresStandFor (net : Net) (lines : List BornLine) (order : List ℕ) (time : ℕ) (stores : Stores) (history : List Event) : Type 0 where
  pub before : All (λ event. IsSound event.tuple × (event.tuple.at < time)) history
  pub holds :
      (number : ℕ) (prefix : Prefix) (hop : Hop) → IsAt net number (After prefix hop)
      → Purged time (IsReadAfter lines (After prefix hop)) hop.wait.choose (waiting_instances (streams_over lines order history) prefix hop) (stores number)
