-- Births of queries: a query reads only what is detected after its birth, and without one it reads all.
use Rattle.std.specs.Prelude.{ℕ, Bool, true, nat_lt, List, Option, Some, None}
use Rattle.std.specs.List.{filter}
use Rattle.event_types.specs.Tuple.{TupleView}
use Rattle.semantics.specs.Denotation.{Streams}

-- whether a time is after a birth
abbrev pub is_after : Option ℕ → ℕ → Bool
is_after None time = true
is_after (Some birth) time = nat_lt birth time

-- the tuples that are detected after a birth
abbrev pub after : Option ℕ → List TupleView → List TupleView
after birth tuples = filter (λ tuple. is_after birth tuple.at) tuples

-- the streams, each cut to the tuples that are detected after a birth
abbrev pub streams_after : Option ℕ → Streams → Streams
streams_after birth streams stream = after birth (streams stream)
