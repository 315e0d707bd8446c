-- The states of a network by number, as its readers tell them.
use Rattle.std.specs.Prelude.{ℕ, ◌==◌, Bool, false, is_some, List, [], Option, Some, None, slice_index_or}
use Rattle.std.specs.Option.{option_and_then, option_map, unwrap_or}
use Rattle.automaton.specs.declared.network.End.{End}
use Rattle.automaton.specs.declared.network.Entrance.{Entrance}
use Rattle.automaton.specs.declared.network.Entrance.TheVariants.{Root, Waiting}
use Rattle.automaton.specs.declared.network.State.{State}
use Rattle.automaton.specs.declared.step.Stage.{Stage}
use Rattle.automaton.specs.declared.wait.Wait.{Wait}

-- a network: at each number its state, or nothing where no state has the number
abbrev pub Net : Type 0
Net = List (Option State)

-- the state with a number
abbrev pub state_at : Net → ℕ → Option State
state_at net number = slice_index_or net number None

-- whether a state has the number
abbrev pub is_used : Net → ℕ → Bool
is_used net number = is_some (state_at net number)

-- how a state is entered
abbrev pub entrance_in : Option State → Option Entrance
entrance_in slot = option_map (λ state. state.entrance) slot

-- the stream of a root state
abbrev pub root_by : Entrance → Option ℕ
root_by (Root stream) = Some stream
root_by (Waiting before hop) = None

-- the number of the state before a waiting state
abbrev pub before_by : Entrance → Option ℕ
before_by (Root stream) = None
before_by (Waiting before hop) = Some before

-- what a binding waits for at a waiting state
abbrev pub wait_by : Entrance → Option Wait
wait_by (Root stream) = None
wait_by (Waiting before hop) = Some hop.wait

-- the step into a waiting state, and the empty one at a root
abbrev pub step_by : Entrance → List Stage
step_by (Root stream) = []
step_by (Waiting before hop) = hop.step

-- the same of a state that may be there
abbrev pub root_in : Option State → Option ℕ
root_in slot = option_and_then root_by (entrance_in slot)

-- the number of the state before it, where it is a waiting state
abbrev pub before_in : Option State → Option ℕ
before_in slot = option_and_then before_by (entrance_in slot)

-- the numbers of the states to which its forward edges lead
abbrev pub edges_in : Option State → List ℕ
edges_in slot = unwrap_or (option_map (λ state. state.edges) slot) []

-- the ends at it
abbrev pub ends_in : Option State → List End
ends_in slot = unwrap_or (option_map (λ state. state.ends) slot) []

-- how the state with a number is entered
abbrev pub entrance_at : Net → ℕ → Option Entrance
entrance_at net number = entrance_in (state_at net number)

-- the stream of the state with a number, where it is a root state
abbrev pub root_at : Net → ℕ → Option ℕ
root_at net number = root_in (state_at net number)

-- the number of the state before the state with a number, where it is a waiting state
abbrev pub before_at : Net → ℕ → Option ℕ
before_at net number = before_in (state_at net number)

-- what a binding waits for at the state with a number, where it is a waiting state
abbrev pub wait_at : Net → ℕ → Option Wait
wait_at net number = option_and_then wait_by (entrance_at net number)

-- the step into the state with a number
abbrev pub step_at : Net → ℕ → List Stage
step_at net number = unwrap_or (option_map step_by (entrance_at net number)) []

-- the numbers of the states to which the forward edges of the state with a number lead
abbrev pub edges_at : Net → ℕ → List ℕ
edges_at net number = edges_in (state_at net number)

-- the ends at the state with a number
abbrev pub ends_at : Net → ℕ → List End
ends_at net number = ends_in (state_at net number)

-- whether a number is told, and is this one
abbrev pub tells : ℕ → Option ℕ → Bool
tells number None = false
tells number (Some other) = other == number
