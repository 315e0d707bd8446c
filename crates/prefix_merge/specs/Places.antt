-- Which numbers no state of a network has. No public clause cites this.
use Rattle.std.specs.Prelude.{◌≡◌, ℕ, Bool, not, true, List, slice_index_or}
use Rattle.automaton.specs.States.{Net, is_used}

-- whether a number is free; those behind the listed ones are
abbrev pub is_free : List Bool → ℕ → Bool
is_free free number = slice_index_or free number true

-- the numbers are free that no state has
abbrev pub AreFree : List Bool → Net → Type 0
AreFree free net = (number : ℕ) → is_free free number ≡ not (is_used net number)
