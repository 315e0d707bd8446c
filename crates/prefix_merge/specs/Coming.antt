-- Which states came to a network, and which left it.
use Rattle.std.specs.Prelude.{◌≡◌, ◌<◌, ◌⊎◌, ℕ, false, true, All, Contains, IsTrue, List, length}
use Rattle.automaton.specs.States.{Net, is_used}
use Rattle.prefix_merge.specs.declared.left.Left.{Left}

-- a state that left is listed, unless one found no room
abbrev pub Notes : Left → ℕ → Type 0
Notes left number = Contains left.numbers number ⊎ (left.missed ≡ true)

-- each state that left a network is noted, and what was noted stays
pub record NotesLeft (old new : Net) (before after : Left) : Type 0 where
  pub left : (number : ℕ) → IsTrue (is_used old number) → is_used new number ≡ false → Notes after number
  pub kept : (number : ℕ) → Notes before number → Notes after number

-- each state that came to a network is listed, what was listed stays, and all are numbers of its places if they were
pub record ListsCome (old new : Net) (before after : List ℕ) : Type 0 where
  pub came : (number : ℕ) → IsTrue (is_used new number) → is_used old number ≡ false → Contains after number
  pub kept : (number : ℕ) → Contains before number → Contains after number
  pub below : All (λ number. number < length old) before → All (λ number. number < length new) after
