-- Tuples by their detection time.
use Rattle.std.specs.Prelude.{ℕ, ◌==◌, ◌≤◌, nat_lt, List}
use Rattle.std.specs.List.{All, filter}
use Rattle.event_types.specs.Tuple.{TupleView}
use Rattle.semantics.specs.Denotation.{Streams}

-- the tuples that are detected before a time
abbrev pub before : ℕ → List TupleView → List TupleView
before time tuples = filter (λ tuple. nat_lt tuple.at time) tuples

-- the tuples of the epoch of a time, which are those that are detected at it
abbrev pub during : ℕ → List TupleView → List TupleView
during time tuples = filter (λ tuple. tuple.at == time) tuples

-- the tuple starts no later than it is detected, and is detected by a time
abbrev pub IsPast : ℕ → TupleView → Type 0
IsPast time tuple = (tuple.from ≤ tuple.at) × (tuple.at ≤ time)

-- the same of all tuples of all streams
abbrev pub ArePast : ℕ → Streams → Type 0
ArePast time streams = (stream : ℕ) → All (IsPast time) (streams stream)

-- the streams as they were before a time
abbrev pub streams_before : ℕ → Streams → Streams
streams_before time streams stream = before time (streams stream)

-- the tuples of the epoch of a time in each stream
abbrev pub streams_during : ℕ → Streams → Streams
streams_during time streams stream = during time (streams stream)
