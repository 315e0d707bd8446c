-- Tables of tuples with their derivations, as streams.
use Rattle.std.specs.Prelude.{List, [], slice_index_or}
use Rattle.semantics.specs.Denotation.{Streams}
use Rattle.derivations.specs.DerivedTuples.{DerivedStreams, DerivedTuple, tuples_in}

-- the streams that a table has; past its end a stream is empty
abbrev pub streams_of : List (List DerivedTuple) → DerivedStreams
streams_of lists stream = slice_index_or lists stream []

-- their tuples alone
abbrev pub tuples_of_streams : List (List DerivedTuple) → Streams
tuples_of_streams lists stream = tuples_in (streams_of lists stream)
