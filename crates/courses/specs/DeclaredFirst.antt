-- Sets of queries whose declared streams are the first ones. No public clause cites this module.
use Rattle.std.specs.Prelude.{◌≡◌, ◌<◌, ◌≤◌, ℕ, true, length, Some, slice_get}
use Rattle.stream_schema.specs.Streams.{Entry}
use Rattle.courses.specs.QuerySet.{QuerySet}

-- a stream that is told to be declared is one of the first, which are all streams of the table
pub record HasDeclaredFirst (set : QuerySet) : Type 0 where
  pub told : (stream : ℕ) (entry : Entry) → slice_get set.streams stream ≡ Some entry → entry.declared ≡ true → stream < set.program.declared
  pub within : set.program.declared ≤ length set.streams
