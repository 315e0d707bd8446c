-- Histories with the numbers of their lines.
use Rattle.std.specs.Prelude.{◌≤◌, List, map}
use Rattle.std.specs.List.{All}
use Rattle.event_types.specs.Tuple.{IsSound}
use Rattle.semantics.specs.Histories.{Event}
use Rattle.semantics.specs.Laws.{NeverFalls}
use Rattle.derivations.specs.declared.history.Heard.{Heard}

-- the event of a line
abbrev pub event_of : Heard → Event
event_of heard = record { stream = heard.stream; tuple = heard.tuple }

-- the history of lines
abbrev pub events_of : List Heard → List Event
events_of lines = map event_of lines

-- their detection times never fall
abbrev pub AreInOrder : List Heard → Type 0
AreInOrder lines = NeverFalls (events_of lines)

-- each event starts no later than it is detected
abbrev pub AreSoundLines : List Heard → Type 0
AreSoundLines lines = All (λ event. IsSound event.tuple) (events_of lines)

-- no event is detected after this one
abbrev pub IsNotBefore : List Heard → Heard → Type 0
IsNotBefore lines heard = All (λ earlier. earlier.tuple.at ≤ heard.tuple.at) lines
