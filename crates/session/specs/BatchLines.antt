-- The result lines of an epoch, from the tuples of each stream. No public clause cites this module.
use Rattle.std.specs.Prelude.{ℕ, List}
use Rattle.std.specs.List.{All, flat_map}
use Rattle.event_types.specs.Tuple.{TupleView}
use Rattle.semantics.specs.Report.{line}
use Rattle.stream_schema.specs.Streams.{Entry}
use Rattle.catalogue.specs.Standing.{IsKnown}
use Rattle.session.specs.Fronts.{name_in}

-- each stream that has tuples is known by its name
abbrev pub AreOfKnown : List Entry → List (ℕ × List TupleView) → Type 0
AreOfKnown streams batch = All (λ result. IsKnown streams result.0) batch

-- the result lines of the tuples, which are given stream by stream
abbrev pub batch_lines : List Entry → List (ℕ × List TupleView) → List ℕ
batch_lines streams batch = flat_map (λ result. flat_map (line (name_in streams result.0)) result.1) batch
