-- A line that comes to a merged network.
use Rattle.std.specs.Prelude.{◌≡◌, ◌<◌, ◌⊎◌, ◌↔◌, ◌+◌, ◌==◌, ℕ, false, not, IsTrue, List, [], ◌∷◌, ◌++◌, Option, Some, Contains, length, slice_get}
use Rattle.std.specs.List.{filter}
use Rattle.automaton.specs.declared.line.Line.{Line}
use Rattle.automaton.specs.declared.network.End.{End}
use Rattle.automaton.specs.NetworkLines.{Ending, HasEndings}
use Rattle.automaton.specs.Prefixes.{Prefix, beginnings, path}
use Rattle.automaton.specs.States.{Net, before_at, edges_at, ends_at, entrance_at, is_used}
use Rattle.prefix_merge.specs.Merging.{HasEnd, HasPrefix, number_at}

-- the ends but those of this number
abbrev pub without_numbered : ℕ → List End → List End
without_numbered number ends = filter (λ end. not (end.number == number)) ends

-- the states that come take the lowest free numbers, one after another along the line
pub record TakesLowest (old new : Net) : Type 0 where
  pub lowest : (number below : ℕ) → is_used old number ≡ false → IsTrue (is_used new number) → below < number → IsTrue (is_used new below)
  pub rising : (number before : ℕ) → is_used old before ≡ false → before_at new number ≡ Some before → before < number

-- each state keeps its number and how it is entered, and its edges and ends, behind which the line's edge and end come, the states are exactly the old ones and those of the line's prefixes, and the endings are the old ones and the line's with this number and this birth
pub record Inserts (line : Line) (end : ℕ) (birth : Option ℕ) (old new : Net) : Type 0 where
  pub stay : (number : ℕ) → IsTrue (is_used old number) → entrance_at new number ≡ entrance_at old number
  pub prefixes : (prefix : Prefix) → HasPrefix new prefix ↔ (HasPrefix old prefix ⊎ Contains (beginnings (path line)) prefix)
  pub numbers : TakesLowest old new
  pub endings : (endings : List Ending) → HasEndings old endings → HasEndings new (endings ++ record { line = line; number = end; birth = birth } ∷ [])
  pub old_edges : (number : ℕ) → filter (is_used old) (edges_at new number) ≡ edges_at old number
  pub edge_last : (number place next : ℕ) → slice_get (edges_at new number) place ≡ Some next → is_used old next ≡ false → place + 1 ≡ length (edges_at new number)
  pub old_ends : (number : ℕ) → without_numbered end (ends_at new number) ≡ ends_at old number
  pub end_last : (number place : ℕ) → number_at new number place ≡ Some end → place + 1 ≡ length (ends_at new number)
  pub ends : (other : ℕ) → HasEnd new other ↔ (HasEnd old other ⊎ (other ≡ end))
