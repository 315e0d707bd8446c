-- What leaves a wait.
use Rattle.std.specs.Prelude.{List, Option, Some, None}
use Rattle.std.specs.List.{flat_map}
use Rattle.event_types.specs.Tuple.{TupleView}
use Rattle.semantics.specs.Scalars.{Pr}
use Rattle.semantics.specs.Runs.{runs}
use Rattle.semantics.specs.Denotation.{matches}
use Rattle.automaton.specs.declared.wait.Turn.{Turn}

-- each binding joined with each of its nexts among the tuples, and in a FOLD the runs from each binding (EDBT 2006, conditional sequence and iteration)
abbrev pub chosen : List Pr → Option Turn → List TupleView → List TupleView → List TupleView
chosen choose None tuples bindings = flat_map (matches choose tuples) bindings
chosen choose (Some turn) tuples bindings = flat_map (runs choose turn.on turn.set.parts tuples) bindings
