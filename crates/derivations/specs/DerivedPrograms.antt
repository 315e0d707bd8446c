-- The streams of a program over a history, each tuple with its derivation.
use Rattle.std.specs.Prelude.{ℕ, ◌+◌, ◌==◌, nat_lt, if◌then◌else◌, List, [], ◌∷◌, ◌++◌}
use Rattle.semantics.specs.Histories.{Event}
use Rattle.semantics.specs.Programs.{Program, Query}
use Rattle.derivations.specs.Derivation as the
use Rattle.derivations.specs.DerivedTuples.{DerivedStreams, DerivedTuple, derived}

-- an event with its place, where it was heard on the stream
abbrev pub heard_one : ℕ → Event → ℕ → List DerivedTuple
heard_one place event stream = if event.stream == stream then record { tuple = event.tuple; by = the.Event place } ∷ [] else []

-- the events of a stream, with their places, where the first event has this place
abbrev pub derived_heard : ℕ → List Event → ℕ → List DerivedTuple
derived_heard place [] stream = []
derived_heard place (event ∷ later) stream = heard_one place event stream ++ derived_heard (place + 1) later stream

-- each declared stream has the events that were heard on it, and no other stream has any
abbrev pub derived_declared : ℕ → List Event → DerivedStreams
derived_declared declared history stream = if nat_lt stream declared then derived_heard 1 history stream else []

-- the streams with these tuples at one number
abbrev pub with_derived : DerivedStreams → ℕ → List DerivedTuple → DerivedStreams
with_derived streams number found stream = if stream == number then found else streams stream

-- the streams once each query in turn has published what it gives over the streams before it; no query has a birth
abbrev pub derived_in_turn : ℕ → DerivedStreams → List Query → DerivedStreams
derived_in_turn declared streams [] = streams
derived_in_turn declared streams (query ∷ order) = derived_in_turn declared (with_derived streams query.stream (derived declared query.expr streams)) order

-- the streams of a program over a history
abbrev pub derived_env : Program → List Event → DerivedStreams
derived_env program history = derived_in_turn program.declared (derived_declared program.declared history) program.order
