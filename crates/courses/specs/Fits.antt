-- How an event that was read stands to its stream. No public clause cites this module.
use Rattle.std.specs.Prelude.{◌≡◌, true, List, Some, slice_get}
use Rattle.event_types.specs.Tuple.{IsSound}
use Rattle.semantics.specs.Kinds.{HasKinds}
use Rattle.stream_schema.specs.Schema.{kinds_of}
use Rattle.stream_schema.specs.Streams.{Entry}
use Rattle.event_csv.specs.declared.event.Seen.{Seen}

-- the event's stream is declared, its values are of the kinds of this stream, and it starts no later than it is detected
pub record Fits (streams : List Entry) (seen : Seen) : Type 0 where
  pub entry : Entry
  pub there : slice_get streams seen.stream ≡ Some entry
  pub declared : entry.declared ≡ true
  pub kinds : HasKinds (kinds_of entry.schema) seen.tuple
  pub sound : IsSound seen.tuple
