-- Networks that grow by a state, an edge or an end. No public clause cites this.
use Rattle.std.specs.Prelude.{◌≡◌, ℕ, ◌+◌, ◌-◌, ◌==◌, ◌||◌, IsTrue, if◌then◌else◌, is_some, List, [], ◌∷◌, ◌++◌, length, nat_lt, take, Option, Some, None, Contains, slice_get, slice_set, sum_by, count_by}
use Rattle.std.specs.List.{list_any, swap_remove}
use Rattle.std.specs.List.Sorted.{IsPermutation}
use Rattle.automaton.specs.declared.line.Hop.{Hop}
use Rattle.automaton.specs.declared.line.Line.{Line}
use Rattle.automaton.specs.declared.network.End.{End}
use Rattle.automaton.specs.declared.network.Entrance.TheVariants as entrance
use Rattle.automaton.specs.declared.network.State.{State}
pub use Rattle.automaton.specs.Changes.{with_edge, with_end}
use Rattle.automaton.specs.Changes.{LosesEdge, with_ends}
use Rattle.automaton.specs.NetworkLines.{ArePlaces, endings_by}
use Rattle.automaton.specs.Networks.{IsNetwork}
use Rattle.automaton.specs.Plain.{IsPlain, numbered}
use Rattle.automaton.specs.Prefixes.{Prefix, beginnings, hops_of, prefixes, root_of}
use Rattle.automaton.specs.States.{Net, before_at, before_in, edges_at, ends_at, ends_in, is_used, root_in, state_at, tells}

-- the network with a root state for a stream, where none was found
abbrev pub rooted : ℕ → Option ℕ → Net → Net
rooted stream (Some found) net = net
rooted stream None net = net ++ Some (record { entrance = entrance.Root stream; edges = []; ends = [] }) ∷ []

-- the network with one more waiting state, to which a forward edge leads from the state that the line has reached
abbrev pub hopped : ℕ → Hop → Net → Net
hopped tip hop net = slice_set net tip (with_edge (length net) (state_at net tip)) ++ Some (record { entrance = entrance.Waiting tip hop; edges = []; ends = [] }) ∷ []

-- the network with one more end at the state that the line has reached
abbrev pub ended : ℕ → End → Net → Net
ended tip end net = slice_set net tip (with_end end (state_at net tip))

-- the state without its last forward edge
abbrev pub without_last : Option State → Option State
without_last None = None
without_last (Some state) = Some (record { entrance = state.entrance; edges = take (length state.edges - 1) state.edges; ends = state.ends })

-- the item at a place was taken out, and the last one took its place
pub record IsTakenOver {X : Type 0} (place : ℕ) (old new : List X) : Type 0 where
  pub gone : X
  pub there : slice_get old place ≡ Some gone
  pub rest : new ≡ swap_remove old place gone

-- a state lost the end at a place, and the last one there took its place
pub record LosesEnd (place : ℕ) (old new : Option State) : Type 0 where
  pub gone : End
  pub there : slice_get (ends_in old) place ≡ Some gone
  pub same : new ≡ with_ends (swap_remove (ends_in old) place gone) old

-- the network with a state at a number, which is the next one at most
abbrev pub placed : ℕ → Option State → Net → Net
placed number slot net = if nat_lt number (length net) then slice_set net number slot else net ++ slot ∷ []

-- the network with a forward edge more
abbrev pub edged : ℕ → ℕ → Net → Net
edged before next net = slice_set net before (with_edge next (state_at net before))

-- a network lost the forward edge from a state to another
abbrev pub IsUnedged : Option ℕ → ℕ → Net → Net → Type 0
IsUnedged None next old new = new ≡ old
IsUnedged (Some before) next old new = (slot : Option State) × LosesEdge next (state_at old before) slot × (new ≡ slice_set old before slot)

-- the plain network of these lines, each number of which is used
pub record IsWhole (lines : List Line) (net : Net) : Type 0 where
  pub network : IsNetwork net
  pub plain : IsPlain lines net
  pub full : count_by is_some net ≡ length net

-- the same with a further line that has come to a state by the hops of a prefix
pub record IsGrown (lines : List Line) (tip : ℕ) (prefix : Prefix) (net : Net) : Type 0 where
  pub network : IsNetwork net
  pub places : ℕ → Prefix
  pub are_places : ArePlaces net places
  pub here : places tip ≡ prefix
  pub used : IsTrue (is_used net tip)
  pub same : IsPermutation (endings_by places net) (numbered 0 lines)
  pub prefixes_only : (number : ℕ) → IsTrue (is_used net number) → Contains (prefixes lines ++ beginnings prefix) (places number)
  pub roots : (stream : ℕ) → count_by (λ slot. tells stream (root_in slot)) net ≡ (if list_any (λ line. line.root == stream) lines || (root_of prefix == stream) then 1 else 0)
  pub waiting : count_by (λ slot. is_some (before_in slot)) net ≡ sum_by (λ line. length line.hops) lines + length (hops_of prefix)
  pub apart : (number before : ℕ) → before_at net number ≡ Some before → length (edges_at net number) + length (ends_at net number) ≡ (if number == tip then 0 else 1)
  pub full : count_by is_some net ≡ length net
