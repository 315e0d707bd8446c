-- When the stores and the open tuples of an engine stand for a history, of which it may have an epoch open. Which lines its network has, and in which order they are worked on, is `Serves`.
use Rattle.std.specs.Prelude.{◌≡◌, ℕ, ◌+◌, ◌≤◌, List, [], ◌∷◌, Option, Some, None, IfSome}
use Rattle.std.specs.List.{All}
use Rattle.std.specs.List.Sorted.{IsPermutation}
use Rattle.event_types.specs.Tuple.{IsSound}
use Rattle.semantics.specs.Denotation.{Streams}
use Rattle.semantics.specs.Histories.{Event, heard_on}
use Rattle.semantics.specs.Laws.{NeverFalls}
use Rattle.automaton.specs.States.{Net}
use Rattle.epoch_laws.specs.BornLines.{BornLine}
use Rattle.epoch_laws.specs.Closing.{Stores}
use Rattle.epoch_laws.specs.Histories.{events_before, events_during}
use Rattle.epoch_laws.specs.StoresStandFor.{StoresStandFor}

-- the last detection time of a history
abbrev pub last_time : List Event → Option ℕ
last_time [] = None
last_time (event ∷ []) = Some event.tuple.at
last_time (event ∷ next ∷ later) = last_time (next ∷ later)

-- the history without its open epoch
abbrev pub closed_part : Option ℕ → List Event → List Event
closed_part None history = history
closed_part (Some time) history = events_before time history

-- the events of its open epoch
abbrev pub open_part : Option ℕ → List Event → List Event
open_part None history = []
open_part (Some time) history = events_during time history

-- the least time of an epoch that may come after the last closed one
abbrev pub next_time : Option ℕ → ℕ
next_time None = 0
next_time (Some time) = time + 1

-- an event of this time may come next: of the open epoch, or else after the last closed one
abbrev pub MayFollow : Option ℕ → Option ℕ → ℕ → Type 0
MayFollow (Some open_time) closed_time at = at ≡ open_time
MayFollow None closed_time at = next_time closed_time ≤ at

-- the open epoch is that of the last time, and its tuples are the history's; the last closed time is that of the rest, for which the stores stand
pub record PartsStandFor (net : Net) (lines : List BornLine) (order : List ℕ) (stores : Stores) (open_time : Option ℕ) (tuples : Streams) (closed_time : Option ℕ) (history : List Event) : Type 0 where
  pub sound : All (λ event. IsSound event.tuple) history
  pub never_falls : NeverFalls history
  pub open_is_last : IfSome open_time (λ time. last_time history ≡ Some time)
  pub closed_is_last : last_time (closed_part open_time history) ≡ closed_time
  pub tuples_are_open : (stream : ℕ) → IsPermutation (tuples stream) (heard_on (open_part open_time history) stream)
  pub stores_stand : StoresStandFor net lines order (next_time closed_time) stores (closed_part open_time history)
