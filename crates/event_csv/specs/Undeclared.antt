-- Streams that no STREAM statement declares, and event lines.
use Rattle.std.specs.Prelude.{◌≡◌, ℕ, false, List, ◌++◌}
use Rattle.std.specs.List.{All}
use Rattle.stream_schema.specs.Streams.{Entry}
use Rattle.event_csv.specs.Event.{event}

-- streams behind the others that aren't declared change the reading of no line
abbrev pub UndeclaredChangeNoEvent : Type 0
UndeclaredChangeNoEvent = (streams more : List Entry) (line : List ℕ) → All (λ s. s.declared ≡ false) more → event (streams ++ more) line ≡ event streams line
