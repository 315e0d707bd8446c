-- What an evaluator has heard.
use Rattle.std.specs.Prelude.{◌≡◌, ℕ, List, length}
use Rattle.event_types.specs.Tuple.{TupleView}
use Rattle.semantics.specs.Denotation.{streams_of}
use Rattle.semantics.specs.Histories.{Event}
use Rattle.semantics.specs.Programs.{declared_streams}

-- the lists are those of so many declared streams, and each has the tuples that these events brought on its stream, in order
pub record HasHeard (declared : ℕ) (history : List Event) (lists : List (List TupleView)) : Type 0 where
  pub as_many : length lists ≡ declared
  pub heard : streams_of lists ≡ declared_streams declared history
