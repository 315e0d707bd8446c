-- Merged networks that grow by a line, state by state. No public clause cites this.
use Rattle.std.specs.Prelude.{◌≡◌, ◌≢◌, ◌↔◌, ℕ, List, [], ◌∷◌, Option, Some, nat_eq, slice_get, take}
use Rattle.std.specs.HashMap.{HashMap, get}
use Rattle.automaton.specs.declared.line.Hop.{Hop}
use Rattle.automaton.specs.declared.line.Line.{Line}
use Rattle.automaton.specs.declared.network.End.{End}
use Rattle.automaton.specs.declared.network.Entrance.TheVariants as entrance
use Rattle.automaton.specs.Changes.{AddsEnd, AddsHop, AddsRoot}
use Rattle.automaton.specs.Networks.{IsAt, IsNetwork}
use Rattle.automaton.specs.Prefixes.{Root, extended}
use Rattle.automaton.specs.States.{Net, entrance_at, root_at}
use Rattle.prefix_merge.specs.Merging.{EndsInState, HasOwnNumbers, IsLowestFree, IsMerged}

-- the table tells the root state of each stream that has one, and of no other stream
abbrev pub IsTable : {S : Type 0} → HashMap ℕ ℕ S → Net → Type 0
IsTable table net = (stream number : ℕ) → (get nat_eq table stream ≡ Some number) ↔ (root_at net number ≡ Some stream)

-- what a merged network keeps, with its table
pub record Keeps {S : Type 0} (table : HashMap ℕ ℕ S) (net : Net) : Type 0 where
  pub network : IsNetwork net
  pub merged : IsMerged net
  pub numbers : HasOwnNumbers net
  pub roots : IsTable table net
  pub last : EndsInState net

-- a line's end with this number and this birth
abbrev pub end_of : Line → ℕ → Option ℕ → End
end_of line number birth = record { step = line.last; out = line.out; number = number; birth = birth }

-- the line has come to a state by its first hops, and no state is entered from there through the next one
pub record Reaches (net : Net) (line : Line) (state place : ℕ) : Type 0 where
  pub here : IsAt net state (extended (Root line.root) (take place line.hops))
  pub last : (hop : Hop) (next : ℕ) → slice_get line.hops place ≡ Some hop → entrance_at net next ≢ Some (entrance.Waiting state hop)

-- from a state on each hop gets a state at the lowest free number, and the last one the end
abbrev pub Grows : ℕ → List Hop → End → Net → Net → Type 0
Grows tip [] end old new = AddsEnd tip end old new
Grows tip (hop ∷ hops) end old new = (number : ℕ) × (grown : Net) × IsLowestFree old number × AddsHop number tip hop old grown × Grows number hops end grown new

-- a stream gets a root state at this number, the hops of its line their states, and the last of these the end
abbrev pub Plants : ℕ → Line → End → Net → Net → Type 0
Plants number line end old new = (grown : Net) × AddsRoot number line.root old grown × Grows number line.hops end grown new
