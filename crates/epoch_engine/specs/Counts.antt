-- The number of the instances that wait, are alive and are of use.
use Rattle.std.specs.Prelude.{◌≡◌, ℕ, ◌-◌, ◌^◌, All, List, [], Option, length, map, min, sum_by}
use Rattle.instances.specs.Births.{began_after}
use Rattle.instances.specs.Bounds.{alive_instances}
use Rattle.instances.specs.declared.instance.Instance.{Instance}
use Rattle.semantics.specs.Histories.{Event}
use Rattle.automaton.specs.Prefixes.{Prefix, Root, After}
use Rattle.epoch_laws.specs.Births.{IsLeastBirth}
use Rattle.epoch_laws.specs.BornLines.{BornLine, IsReadAfter, lines_in}
use Rattle.epoch_laws.specs.Histories.{streams_over}
use Rattle.epoch_laws.specs.InstanceFlow.{waiting_instances}
use Rattle.epoch_laws.specs.Standing.{last_time, next_time}
use Rattle.epoch_engine.specs.EngineView.{EngineView}
use Rattle.prefix_merge.specs.Counts.{ListPrefixes}

-- the instances that wait at the state of a prefix after a history, are alive at the time after its last, and began after a birth; at a root none waits
abbrev pub alive_over : List BornLine → List ℕ → List Event → Option ℕ → Prefix → List Instance
alive_over lines order history since (Root stream) = []
alive_over lines order history since (After prefix hop) =
    alive_instances (next_time (last_time history)) hop.wait.choose (began_after since (waiting_instances (streams_over lines order history) prefix hop))

-- the number of those that began after the least birth of the lines that use the prefix
abbrev pub CountsAliveAt : List BornLine → List ℕ → List Event → Prefix → ℕ → Type 0
CountsAliveAt lines order history prefix count = (since : Option ℕ) → IsLeastBirth (IsReadAfter lines prefix) since → count ≡ length (alive_over lines order history since prefix)

-- their number over all states, or 2^64-1 where there are more: that of each prefix, and their sum
pub record CountsAlive (lines : List BornLine) (order : List ℕ) (history : List Event) (count : ℕ) : Type 0 where
  pub distinct : List (Prefix × ℕ)
  pub are : ListPrefixes (lines_in lines) (map (λ counted. counted.0) distinct)
  pub each : All (λ counted. CountsAliveAt lines order history counted.0 counted.1) distinct
  pub value : count ≡ min (sum_by (λ counted. counted.1) distinct) (2 ^ 64 - 1)

-- the number of the instances that are stored
abbrev pub stored_in : EngineView → ℕ
stored_in engine = sum_by length engine.stores
