-- What one more tuple of an epoch brings. No public clause cites this module.
use Rattle.std.specs.Prelude.{ℕ, ◌==◌, if◌then◌else◌, List, [], ◌∷◌, Option, Some, None}
use Rattle.event_types.specs.Tuple.{TupleView}
use Rattle.instances.specs.declared.instance.Instance.{Instance}
use Rattle.automaton.specs.States.{Net, entrance_at}
use Rattle.automaton.specs.declared.network.Entrance.{Entrance}
use Rattle.automaton.specs.declared.network.Entrance.TheVariants.{Root, Waiting}
use Rattle.epoch_laws.specs.Closing.{Stores}
use Rattle.epoch_laws.specs.Instances.{begins}
use Rattle.epoch_draft.specs.Pairs.{met}

-- what a tuple of a stream lets leave a state that is entered so: at a root of the stream itself, which begins here, at a wait on the stream what it makes of the instances there
abbrev pub gets_by : Option Entrance → ℕ → TupleView → List Instance → List Instance
gets_by None stream tuple store = []
gets_by (Some (Root root)) stream tuple store = if root == stream then begins tuple ∷ [] else []
gets_by (Some (Waiting before hop)) stream tuple store = if hop.wait.stream == stream then met hop.wait store tuple else []

-- what a tuple of a stream lets leave the state with a number
abbrev pub gets : Net → Stores → ℕ → TupleView → ℕ → List Instance
gets net stores stream tuple number = gets_by (entrance_at net number) stream tuple (stores number)
