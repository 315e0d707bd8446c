-- The events of an event text, each with the number of its line.
use Rattle.std.specs.Prelude.{◌≡◌, ℕ, List, [], ◌∷◌, None, Result, Ok, Err}
use Rattle.std.specs.List.{flat_map}
use Rattle.semantics.specs.Histories.{Event}
use Rattle.derivations.specs.HeardLines.{events_of}
use Rattle.derivations.specs.declared.history.Heard.{Heard}
use Rattle.courses.specs.ControlLines.{EntryFault}
use Rattle.courses.specs.EventLines.{Reading, heard, refused}

-- the event of a line with this number; a line with a fault has none
abbrev pub numbered_at : ℕ → Result Event EntryFault → List Heard
numbered_at number (Ok event) = record { stream = event.stream; tuple = event.tuple; line = number } ∷ []
numbered_at number (Err why) = []

-- the events of lines, each with the number of its line
abbrev pub numbered_events : List Reading → List Heard
numbered_events lines = flat_map (λ line. numbered_at line.number line.found) lines

-- where no line is refused, they are the events that are heard
abbrev pub NumberedEventsAreHeard : Type 0
NumberedEventsAreHeard = (lines : List Reading) → refused lines ≡ None → events_of (numbered_events lines) ≡ heard lines
