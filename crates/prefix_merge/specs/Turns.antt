-- Lines that come to a merged network one after another, and ends that leave it.
use Rattle.std.specs.Prelude.{◌≡◌, ◌≤◌, ◌↔◌, ◌⊎◌, ◌==◌, ℕ, zero, suc, Bool, not, false, IsTrue, List, [], ◌∷◌, ◌++◌, Contains, Option, Some, length, slice_get}
use Rattle.std.specs.List.{filter, list_any}
use Rattle.automaton.specs.declared.line.Line.{Line}
use Rattle.automaton.specs.NetworkLines.{Ending, HasEndings}
use Rattle.automaton.specs.States.{Net, entrance_at, is_used}
use Rattle.prefix_merge.specs.Insertion.{Inserts}
use Rattle.prefix_merge.specs.Merging.{HasEnd, IsSettled}

-- the line at a place came, with the end number at this place
pub record InsertsAt (lines : List Line) (ends : List ℕ) (birth : Option ℕ) (place : ℕ) (old new : Net) : Type 0 where
  pub line : Line
  pub end : ℕ
  pub line_there : slice_get lines place ≡ Some line
  pub end_there : slice_get ends place ≡ Some end
  pub inserts : Inserts line end birth old new
  pub before : IsSettled old
  pub after : IsSettled new

-- the first so many lines came one after another
abbrev pub InsertsFirst : List Line → List ℕ → Option ℕ → ℕ → Net → Net → Type 0
InsertsFirst lines ends birth zero old new = new ≡ old
InsertsFirst lines ends birth (suc place) old new = (middle : Net) × InsertsFirst lines ends birth place old middle × InsertsAt lines ends birth place middle new

-- the endings of lines with these end numbers and one birth
abbrev pub endings_with : Option ℕ → List Line → List ℕ → List Ending
endings_with birth [] ends = []
endings_with birth (line ∷ lines) [] = []
endings_with birth (line ∷ lines) (end ∷ ends) = record { line = line; number = end; birth = birth } ∷ endings_with birth lines ends

-- the lines came one after another: each state keeps its number and how it is entered, and the endings are the old ones and these
pub record InsertsAll (lines : List Line) (ends : List ℕ) (birth : Option ℕ) (old new : Net) : Type 0 where
  pub turns : InsertsFirst lines ends birth (length lines) old new
  pub longer : length old ≤ length new
  pub stay : (number : ℕ) → IsTrue (is_used old number) → entrance_at new number ≡ entrance_at old number
  pub endings : (endings : List Ending) → HasEndings old endings → HasEndings new (endings ++ endings_with birth lines ends)
  pub ends_are : (other : ℕ) → HasEnd new other ↔ (HasEnd old other ⊎ Contains ends other)

-- whether a number is among these
abbrev pub is_among : List ℕ → ℕ → Bool
is_among numbers number = list_any (λ one. number == one) numbers

-- the states that are left keep their numbers and how they are entered, and the endings are the old ones but those of these numbers
pub record RemovesAll (ends : List ℕ) (old new : Net) : Type 0 where
  pub shorter : length new ≤ length old
  pub stay : (number : ℕ) → IsTrue (is_used new number) → entrance_at new number ≡ entrance_at old number
  pub endings : (endings : List Ending) → HasEndings old endings → HasEndings new (filter (λ ending. not (is_among ends ending.number)) endings)
  pub ends_are : (other : ℕ) → HasEnd new other ↔ (HasEnd old other × (is_among ends other ≡ false))
