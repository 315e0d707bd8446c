-- The births of ends in the order in which they are looked at. No public clause cites this module.
use Rattle.std.specs.Prelude.{ℕ, zero, suc, List, [], ◌∷◌, ◌++◌, flat_map, map, min, Option, Some, None}
use Rattle.automaton.specs.States.{Net, edges_at, ends_at}
use Rattle.automaton.specs.declared.network.End.{End}

-- the births of ends
abbrev pub births_of : List End → List (Option ℕ)
births_of ends = map (λ end. end.birth) ends

-- those of the ends at a state and at the states behind it, at most so many forward edges on
abbrev pub births_within : Net → ℕ → ℕ → List (Option ℕ)
births_within net zero state = births_of (ends_at net state)
births_within net (suc hops) state = births_of (ends_at net state) ++ flat_map (births_within net hops) (edges_at net state)

-- the lesser of two births
abbrev pub lesser : Option ℕ → Option ℕ → Option ℕ
lesser None other = None
lesser (Some birth) None = None
lesser (Some birth) (Some other) = Some (min birth other)

-- the lesser of a birth, if there is one, and another
abbrev pub lesser_of : Option (Option ℕ) → Option ℕ → Option ℕ
lesser_of None other = other
lesser_of (Some birth) other = lesser birth other

-- the least of a birth, if there is one, and some others
abbrev pub least_with : Option (Option ℕ) → List (Option ℕ) → Option (Option ℕ)
least_with least [] = least
least_with least (birth ∷ births) = least_with (Some (lesser_of least birth)) births
