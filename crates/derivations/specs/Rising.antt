-- Tuples with derivations whose detections never fall, and which start no later than they are detected. No public clause cites this.
use Rattle.std.specs.Prelude.{List}
use Rattle.std.specs.List.{All}
use Rattle.std.specs.List.Sorted.{IsNonDecreasingBy}
use Rattle.event_types.specs.Tuple.{IsSound}
use Rattle.derivations.specs.DerivedTuples.{DerivedTuple}

-- no tuple is detected before one that stands before it
abbrev pub Rises : List DerivedTuple → Type 0
Rises found = IsNonDecreasingBy (λ (x : DerivedTuple). x.tuple.at) found

-- each starts no later than it is detected
abbrev pub AreSoundTuples : List DerivedTuple → Type 0
AreSoundTuples found = All (λ (x : DerivedTuple). IsSound x.tuple) found
