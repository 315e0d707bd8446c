-- The streams of lines over a history, and the parts of a history before and in an epoch.
use Rattle.std.specs.Prelude.{ℕ, ◌==◌, nat_lt, List}
use Rattle.std.specs.List.{filter}
use Rattle.semantics.specs.Denotation.{Streams}
use Rattle.semantics.specs.Histories.{Event, heard_on}
use Rattle.epoch_laws.specs.BornLines.{BornLine}
use Rattle.epoch_laws.specs.InstanceFlow.{completed_after}

-- all streams over a history: those that were heard, and each derived stream, made in the order of work
abbrev pub streams_over : List BornLine → List ℕ → List Event → Streams
streams_over lines order history = completed_after lines order (heard_on history)

-- the events that are detected before a time
abbrev pub events_before : ℕ → List Event → List Event
events_before time history = filter (λ event. nat_lt event.tuple.at time) history

-- the events of the epoch of a time
abbrev pub events_during : ℕ → List Event → List Event
events_during time history = filter (λ event. event.tuple.at == time) history
