-- Which part of a catalogue's lines and layout is that of a query. No public clause cites this.
use Rattle.std.specs.Prelude.{◌≡◌, ◌≤◌, ℕ, length}
use Rattle.automaton.specs.Layouts.{HasPart, shrunk}
use Rattle.catalogue.specs.declared.dropping.Part.{Part}
use Rattle.catalogue.specs.Catalogued.{Catalogued}
use Rattle.catalogue.specs.Leaving.{layout_without, lines_before, lines_up_to}

-- these of the lines are those of the query with a number, and this the layout loses with it
pub record IsPart (c : Catalogued) (number : ℕ) (part : Part) : Type 0 where
  pub first : part.first ≡ lines_before c number
  pub end : part.end ≡ lines_up_to c number
  pub within : lines_up_to c number ≤ length c.ends
  pub there : HasPart c.layout part.lost
  pub lost : shrunk c.layout part.lost ≡ layout_without c number
