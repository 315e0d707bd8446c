-- What holds of every network.
use Rattle.std.specs.Prelude.{◌≡◌, ℕ, ◌==◌, IsTrue, if◌then◌else◌, Some, count_by}
use Rattle.automaton.specs.declared.network.Entrance.TheVariants as entrance
use Rattle.automaton.specs.Prefixes.{Prefix, Root, After}
use Rattle.automaton.specs.States.{Net, before_at, edges_at, entrance_at, is_used, root_at, tells}

-- the state with a number stands for a prefix: a root state for its stream, a waiting state for the prefix of the state before it with its own hop behind
abbrev pub IsAt : Net → ℕ → Prefix → Type 0
IsAt net number (Root stream) = root_at net number ≡ Some stream
IsAt net number (After prefix hop) = (before : ℕ) × (entrance_at net number ≡ Some (entrance.Waiting before hop)) × IsAt net before prefix

-- each state stands for a prefix, and from each number forward edges lead exactly to the waiting states that are entered from it, one edge to each
pub record IsNetwork (net : Net) : Type 0 where
  pub places : (number : ℕ) → IsTrue (is_used net number) → (prefix : Prefix) × IsAt net number prefix
  pub edges : (number next : ℕ) → count_by (λ edge. edge == next) (edges_at net number) ≡ (if tells number (before_at net next) then 1 else 0)
