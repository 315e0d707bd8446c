-- A line that leaves a merged network.
use Rattle.std.specs.Prelude.{◌≡◌, ◌≢◌, ◌↔◌, ◌⊎◌, ◌==◌, ℕ, All, Bool, false, not, IsTrue, List, Some, slice_get}
use Rattle.std.specs.List.{filter, swap_remove}
use Rattle.automaton.specs.declared.network.End.{End}
use Rattle.automaton.specs.NetworkLines.{Ending, HasEndings}
use Rattle.automaton.specs.Networks.{IsAt}
use Rattle.automaton.specs.Prefixes.{Prefix}
use Rattle.automaton.specs.States.{Net, edges_at, ends_at, entrance_at, is_used}
use Rattle.prefix_merge.specs.Merging.{HasEnd, IsUsedBy, ends_numbered}

-- edges lost one to a state that isn't there, and the last of them stands in its place
pub record LoseOne (is_there : ℕ → Bool) (old new : List ℕ) : Type 0 where
  pub place : ℕ
  pub next : ℕ
  pub led : slice_get old place ≡ Some next
  pub gone : is_there next ≡ false
  pub rest : new ≡ swap_remove old place next

-- edges are the old ones, where these all lead to states that are there, or lost one to a state that isn't
abbrev pub AreLeft : (ℕ → Bool) → List ℕ → List ℕ → Type 0
AreLeft is_there old new = (All (λ next. IsTrue (is_there next)) old × (new ≡ old)) ⊎ LoseOne is_there old new

-- the states whose prefix another end uses stay, with their numbers, how they are entered and their edges to one another, no other state is there, the ends at each state are the old ones, or where the end of this number stood, the old ones but it, with the last one in its place, and the endings are the old ones but that of this number
pub record Removes (end : ℕ) (old new : Net) : Type 0 where
  pub stay : (number : ℕ) → IsTrue (is_used new number) → entrance_at new number ≡ entrance_at old number
  pub states : (number : ℕ) (prefix : Prefix) → IsAt old number prefix → IsTrue (is_used new number) ↔ IsUsedBy old (λ other. not (other.number == end)) prefix
  pub endings : (endings : List Ending) → HasEndings old endings → HasEndings new (filter (λ ending. not (ending.number == end)) endings)
  pub edges_left : (number : ℕ) → IsTrue (is_used new number) → AreLeft (is_used new) (edges_at old number) (edges_at new number)
  pub other_ends : (number : ℕ) → ends_numbered old end number ≡ 0 → ends_at new number ≡ ends_at old number
  pub ends_left : (number place : ℕ) (gone : End) → slice_get (ends_at old number) place ≡ Some gone → gone.number ≡ end → ends_at new number ≡ swap_remove (ends_at old number) place gone
  pub ends : (other : ℕ) → HasEnd new other ↔ (HasEnd old other × (other ≢ end))
