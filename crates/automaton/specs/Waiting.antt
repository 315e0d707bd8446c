-- The bindings that wait at a waiting state.
use Rattle.std.specs.Prelude.{Bool, true, false, List, [], ◌∷◌, Option, Some, None}
use Rattle.std.specs.List.{filter, flat_map}
use Rattle.event_types.specs.Tuple.{TupleView}
use Rattle.semantics.specs.Scalars.{Pr}
use Rattle.semantics.specs.Nexts.{nexts}
use Rattle.semantics.specs.Runs.{runs}
use Rattle.semantics.specs.Denotation.{Streams}
use Rattle.automaton.specs.declared.line.Hop.{Hop}
use Rattle.automaton.specs.declared.wait.Turn.{Turn}
use Rattle.automaton.specs.Flow.{entering, flow}
use Rattle.automaton.specs.Prefixes.{Prefix}

-- whether there are no tuples
abbrev pub is_empty : List TupleView → Bool
is_empty [] = true
is_empty (tuple ∷ tuples) = false

-- the bindings that are ever at a wait which these entered: themselves, and in a FOLD each with the runs from it
abbrev pub entered : List Pr → Option Turn → List TupleView → List TupleView → List TupleView
entered choose None tuples bindings = bindings
entered choose (Some turn) tuples bindings = flat_map (λ binding. binding ∷ runs choose turn.on turn.set.parts tuples binding) bindings

-- whether a binding has no nexts among the tuples yet, and so is kept by the filter edge (EDBT 2006, automata)
abbrev pub waits : List Pr → List TupleView → TupleView → Bool
waits choose tuples binding = is_empty (nexts choose binding tuples)

-- the bindings that wait among the tuples, of those that entered
abbrev pub waiting_in : List Pr → Option Turn → List TupleView → List TupleView → List TupleView
waiting_in choose turn tuples bindings = filter (waits choose tuples) (entered choose turn tuples bindings)

-- the bindings that wait at the state of a hop behind a prefix
abbrev pub waiting : Streams → Prefix → Hop → List TupleView
waiting streams prefix hop = waiting_in hop.wait.choose hop.wait.fold (streams hop.wait.stream) (entering hop (flow streams prefix))
