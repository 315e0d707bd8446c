-- Networks that a state, an edge or an end comes to or leaves.
use Rattle.std.specs.Prelude.{◌≡◌, ◌≢◌, ℕ, ◌+◌, max, false, List, [], ◌∷◌, ◌++◌, Option, Some, None, count_by, is_some, length, slice_get}
use Rattle.std.specs.List.{swap_remove}
use Rattle.automaton.specs.declared.line.Hop.{Hop}
use Rattle.automaton.specs.declared.network.End.{End}
use Rattle.automaton.specs.declared.network.Entrance.{Entrance}
use Rattle.automaton.specs.declared.network.Entrance.TheVariants as entrance
use Rattle.automaton.specs.declared.network.State.{State}
use Rattle.automaton.specs.States.{Net, before_at, edges_in, ends_at, state_at, tells}

-- a state that is entered so, without edges and ends
abbrev pub bare : Entrance → Option State
bare entrance = Some (record { entrance = entrance; edges = []; ends = [] })

-- the state with one more forward edge
abbrev pub with_edge : ℕ → Option State → Option State
with_edge next None = None
with_edge next (Some state) = Some (record { entrance = state.entrance; edges = state.edges ++ next ∷ []; ends = state.ends })

-- the state with one more end
abbrev pub with_end : End → Option State → Option State
with_end end None = None
with_end end (Some state) = Some (record { entrance = state.entrance; edges = state.edges; ends = state.ends ++ end ∷ [] })

-- the state with these ends
abbrev pub with_ends : List End → Option State → Option State
with_ends ends None = None
with_ends ends (Some state) = Some (record { entrance = state.entrance; edges = state.edges; ends = ends })

-- the state with these forward edges
abbrev pub with_edges : List ℕ → Option State → Option State
with_edges edges None = None
with_edges edges (Some state) = Some (record { entrance = state.entrance; edges = edges; ends = state.ends })

-- a state lost its forward edge to this number, and the last one there took its place
pub record LosesEdge (next : ℕ) (old new : Option State) : Type 0 where
  pub place : ℕ
  pub there : slice_get (edges_in old) place ≡ Some next
  pub rest : new ≡ with_edges (swap_remove (edges_in old) place next) old

-- a root state comes, at this number
pub record AddsRoot (number stream : ℕ) (old new : Net) : Type 0 where
  pub here : state_at new number ≡ bare (entrance.Root stream)
  pub others : (other : ℕ) → other ≢ number → state_at new other ≡ state_at old other
  pub places : length new ≡ max (length old) (number + 1)

-- the waiting state of a hop comes, at this number, and a forward edge leads there from the state before it
pub record AddsHop (number before : ℕ) (hop : Hop) (old new : Net) : Type 0 where
  pub here : state_at new number ≡ bare (entrance.Waiting before hop)
  pub edge : state_at new before ≡ with_edge number (state_at old before)
  pub others : (other : ℕ) → other ≢ number → other ≢ before → state_at new other ≡ state_at old other
  pub places : length new ≡ max (length old) (number + 1)

-- an end comes to a state, behind those that are there
pub record AddsEnd (state : ℕ) (end : End) (old new : Net) : Type 0 where
  pub here : state_at new state ≡ with_end end (state_at old state)
  pub others : (other : ℕ) → other ≢ state → state_at new other ≡ state_at old other
  pub places : length new ≡ length old

-- the end at a place of a state leaves, and the last one there takes its place
pub record RemovesEnd (state place : ℕ) (old new : Net) : Type 0 where
  pub gone : End
  pub there : slice_get (ends_at old state) place ≡ Some gone
  pub here : state_at new state ≡ with_ends (swap_remove (ends_at old state) place gone) (state_at old state)
  pub others : (other : ℕ) → other ≢ state → state_at new other ≡ state_at old other
  pub places : length new ≡ length old

-- the state of this number leaves, and with it the forward edge that leads there, so there is one state less
pub record RemovesState (number : ℕ) (old new : Net) : Type 0 where
  pub here : state_at new number ≡ None
  pub edge : (before : ℕ) → before_at old number ≡ Some before → LosesEdge number (state_at old before) (state_at new before)
  pub others : (other : ℕ) → other ≢ number → tells other (before_at old number) ≡ false → state_at new other ≡ state_at old other
  pub places : length new ≡ length old
  pub fewer : count_by is_some new + 1 ≡ count_by is_some old
