-- The texts of derivations.
use Rattle.std.specs.Prelude.{⊤, ◌≤◌, ◌-◌, ℕ, List, [], ◌++◌, codes, length, Option, Some, None, slice_get}
use Rattle.std.specs.Fmt.{decimal}
use Rattle.derivations.specs.Derivation.{Derivation, Derivations}
use Rattle.derivations.specs.Derivation as the
use Rattle.derivations.specs.declared.history.Heard.{Heard}

-- the number of a line, where there is one
abbrev pub line_or_none : Option Heard → List ℕ
line_or_none (Some heard) = decimal heard.line
line_or_none None = []

-- the number of the line of the event at a place, counted from 1
abbrev pub line_at : List Heard → ℕ → List ℕ
line_at lines place = line_or_none (slice_get lines (place - 1))

abbrev mutual
  -- an event is the number of its line, and the others are a letter with the texts of their parts
  pub by_text : List Heard → Derivation → List ℕ
  by_text lines (the.Event place) = line_at lines place
  by_text lines (the.Query by) = codes "Q(" ++ by_text lines by ++ codes ")"
  by_text lines (the.Left by) = codes "L(" ++ by_text lines by ++ codes ")"
  by_text lines (the.Right by) = codes "R(" ++ by_text lines by ++ codes ")"
  by_text lines (the.Next by next_by) = codes "N(" ++ by_text lines by ++ codes "," ++ by_text lines next_by ++ codes ")"
  by_text lines (the.Fold by all_by) = codes "F(" ++ by_text lines by ++ all_text lines all_by ++ codes ")"

  -- the texts of derivations, a comma before each
  pub all_text : List Heard → Derivations → List ℕ
  all_text lines the.None = []
  all_text lines (the.More by later) = codes "," ++ by_text lines by ++ all_text lines later

abbrev mutual
  -- each event of the derivation is at a place of the history, counted from 1
  pub HasPlaces : List Heard → Derivation → Type 0
  HasPlaces lines (the.Event place) = (1 ≤ place) × (place ≤ length lines)
  HasPlaces lines (the.Query by) = HasPlaces lines by
  HasPlaces lines (the.Left by) = HasPlaces lines by
  HasPlaces lines (the.Right by) = HasPlaces lines by
  HasPlaces lines (the.Next by next_by) = HasPlaces lines by × HasPlaces lines next_by
  HasPlaces lines (the.Fold by all_by) = HasPlaces lines by × HavePlaces lines all_by

  -- the same of each of some derivations
  pub HavePlaces : List Heard → Derivations → Type 0
  HavePlaces lines the.None = ⊤
  HavePlaces lines (the.More by later) = HasPlaces lines by × HavePlaces lines later
