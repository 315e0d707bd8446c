-- What is filled into an engine that has heard nothing, and the histories for which it stands then.
use Rattle.std.specs.Prelude.{◌≡◌, ℕ, List, [], Contains, IsPermutation, Option, None, length, map}
use Rattle.std.specs.List.{All, AllZip}
use Rattle.instances.specs.declared.instance.Instance.{Instance}
use Rattle.semantics.specs.Denotation.{streams_of}
use Rattle.semantics.specs.Histories.{Event}
use Rattle.semantics.specs.Laws.{NeverFalls}
use Rattle.automaton.specs.States.{Net, wait_at}
use Rattle.epoch_laws.specs.Births.{IsNoLater}
use Rattle.epoch_laws.specs.BornLines.{BornLine}
use Rattle.epoch_laws.specs.Closing.{Stores}
use Rattle.snapshot_laws.specs.Renumbering.{Renumbers, StoreAlike, renumbered}
use Rattle.epoch_laws.specs.Standing.{closed_part, last_time, next_time}
use Rattle.epoch_laws.specs.StoresStandFor.{Serves, StoresStandFor}
use Rattle.prefix_merge.specs.Merging.{IsMerged}
use Rattle.epoch_engine.specs.Closes.{KeepsPlan, KeepsTimes}
use Rattle.epoch_engine.specs.EngineStandsFor.{EngineStandsFor}
use Rattle.epoch_engine.specs.EngineView.{EngineView, stores_in}
use Rattle.epoch_engine.specs.Starts.{IsNew}

-- states that wait
abbrev pub AreWaiting : Net → List ℕ → Type 0
AreWaiting net states = All (λ state. wait_at net state ≡ None → ⊥) states

-- an engine was given a last closed time, and the stores of these states their instances; all else is as it was
pub record Fills (last : Option ℕ) (states : List ℕ) (stores : List (List Instance)) (old new : EngineView) : Type 0 where
  pub plan : KeepsPlan old new
  pub opened : new.opened ≡ old.opened
  pub time : new.time ≡ old.time
  pub closed : new.closed_time ≡ last
  pub filled : AllZip (λ state instances. IsPermutation (stores_in new state) instances) states stores
  pub others : (number : ℕ) → (Contains states number → ⊥) → stores_in new number ≡ stores_in old number

-- a last closed time and stores fit lines and a history: the history is sound and ends there, no line was born later, and the stores stand for it
pub record ContentsFit (net : Net) (lines : List BornLine) (order : List ℕ) (last : Option ℕ) (stores : Stores) (history : List Event) : Type 0 where
  pub never_falls : NeverFalls history
  pub ends : last_time history ≡ last
  pub births : All (λ born. IsNoLater born.birth last) lines
  pub stores_stand : StoresStandFor net lines order (next_time last) stores history

-- an engine that had heard nothing, and was filled, stands for all lines and all histories that its contents fit
abbrev pub FilledStands : Type 0
FilledStands =
    (last : Option ℕ) (states : List ℕ) (stores : List (List Instance)) (old new : EngineView) (lines : List BornLine) (history : List Event)
    → IsNew old.network old.layout old → AreWaiting old.network states → Fills last states stores old new → Serves old.network lines old.layout.order
    → ContentsFit old.network lines old.layout.order last (stores_in new) history → EngineStandsFor new lines history

-- another engine has what one has: the same times and, up to order, the same open tuples; at states that stand for a prefix and for the renumbered one it has the same instances, and none where no state waits
pub record Carries (number : ℕ → ℕ) (old new : EngineView) : Type 0 where
  pub merged : IsMerged new.network
  pub as_many : length new.opened ≡ length new.layout.kinds
  pub order : new.layout.order ≡ map number old.layout.order
  pub times : KeepsTimes old new
  pub opened : (stream : ℕ) → IsPermutation (streams_of new.opened stream) (streams_of old.opened stream)
  pub alike : StoreAlike number old.network new.network (stores_in old) (stores_in new)
  pub none_elsewhere : (state : ℕ) → wait_at new.network state ≡ None → stores_in new state ≡ []

-- an engine over renumbered lines that has what one has that stands for lines and a history stands for these and the same history
abbrev pub CarriedStands : Type 0
CarriedStands =
    (number back : ℕ → ℕ) (old new : EngineView) (lines : List BornLine) (history : List Event)
    → EngineStandsFor old lines history → Renumbers number back (closed_part old.time history) → Serves new.network (map (renumbered number) lines) new.layout.order
    → Carries number old new → EngineStandsFor new (map (renumbered number) lines) history
