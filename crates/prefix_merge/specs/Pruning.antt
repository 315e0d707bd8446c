-- Merged networks that lose the states that no end uses. No public clause cites this.
use Rattle.std.specs.Prelude.{◌≡◌, ◌≢◌, ◌≤◌, ◌⊎◌, ℕ, [], true, IsTrue, Contains, length}
use Rattle.automaton.specs.Networks.{IsAt, IsNetwork}
use Rattle.automaton.specs.Prefixes.{Prefix, beginnings}
use Rattle.automaton.specs.States.{Net, edges_at, ends_at, entrance_at, is_used, state_at}
use Rattle.prefix_merge.specs.Merging.{EndsInState, IsMerged, IsUsedBy}
use Rattle.prefix_merge.specs.Removal.{AreLeft}

-- an edge leads on from the state, or an end stands there
abbrev pub IsWanted : Net → ℕ → Type 0
IsWanted net state = (edges_at net state ≢ []) ⊎ (ends_at net state ≢ [])

-- what is left of a network after states without ends left it
pub record IsWithoutUnused (whole net : Net) : Type 0 where
  pub network : IsNetwork net
  pub stay : (number : ℕ) → IsTrue (is_used net number) → entrance_at net number ≡ entrance_at whole number
  pub ends : (number : ℕ) → ends_at net number ≡ ends_at whole number
  pub edges : (number : ℕ) → IsTrue (is_used net number) → AreLeft (is_used net) (edges_at whole number) (edges_at net number)
  pub places : length net ≡ length whole

-- no two states stand for one prefix, each state's prefix is used by an end or is a beginning of this one, for which a state stands, and each other state has the edges that it had
pub record IsPruning (whole : Net) (prefix : Prefix) (tip : ℕ) (net : Net) : Type 0 where
  pub left : IsWithoutUnused whole net
  pub here : IsAt net tip prefix
  pub apart : (number other : ℕ) (p : Prefix) → IsAt net number p → IsAt net other p → number ≡ other
  pub needed : (number : ℕ) (p : Prefix) → IsAt net number p → IsUsedBy net (λ end. true) p ⊎ Contains (beginnings prefix) p
  pub edges : (number : ℕ) → IsTrue (is_used net number) → number ≢ tip → edges_at net number ≡ edges_at whole number

-- and in the end each is used
pub record IsPruned (whole net : Net) : Type 0 where
  pub left : IsWithoutUnused whole net
  pub merged : IsMerged net

-- the same states, without places at the end that no state has
pub record IsShortened (whole net : Net) : Type 0 where
  pub same : (number : ℕ) → state_at net number ≡ state_at whole number
  pub shorter : length net ≤ length whole
  pub last : EndsInState net
