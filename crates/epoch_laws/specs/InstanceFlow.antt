-- What flows along prefixes and lines as instances, each of which keeps the time at which it began.
use Rattle.std.specs.Prelude.{ℕ, ◌==◌, List, [], ◌∷◌, map}
use Rattle.std.specs.List.{filter, flat_map}
use Rattle.event_types.specs.Tuple.{TupleView}
use Rattle.instances.specs.declared.instance.Instance.{Instance}
use Rattle.semantics.specs.Denotation.{Streams}
use Rattle.semantics.specs.Programs.{with_stream}
use Rattle.automaton.specs.Flow.{entering, leaving}
use Rattle.automaton.specs.Prefixes.{Prefix, Root, After, path}
use Rattle.automaton.specs.Waiting.{waiting_in}
use Rattle.automaton.specs.declared.line.Hop.{Hop}
use Rattle.epoch_laws.specs.Births.{passing_after}
use Rattle.epoch_laws.specs.BornLines.{BornLine}
use Rattle.epoch_laws.specs.Instances.{began, begins}

-- what is made of each instance by itself: the tuples that are made of its tuple, which began when it did
abbrev pub each : (List TupleView → List TupleView) → List Instance → List Instance
each make instances = flat_map (λ instance. map (began instance.first) (make (instance.tuple ∷ []))) instances

-- the instances that flow out of the state of a prefix
abbrev pub flow_instances : Streams → Prefix → List Instance
flow_instances streams (Root stream) = map begins (streams stream)
flow_instances streams (After prefix hop) = each (leaving hop streams) (flow_instances streams prefix)

-- the bindings that wait at a hop, of the tuples that come to its step
abbrev pub waiting_behind : Hop → Streams → List TupleView → List TupleView
waiting_behind hop streams tuples = waiting_in hop.wait.choose hop.wait.fold (streams hop.wait.stream) (entering hop tuples)

-- the instances that wait at the state of a hop behind a prefix
abbrev pub waiting_instances : Streams → Prefix → Hop → List Instance
waiting_instances streams prefix hop = each (waiting_behind hop streams) (flow_instances streams prefix)

-- what a line gives after its birth
abbrev pub given_after : Streams → BornLine → List TupleView
given_after streams born = passing_after born.line.last born.birth (flow_instances streams (path born.line))

-- what all lines give so that publish a stream, one after the other in their order
abbrev pub derived_after : List BornLine → Streams → ℕ → List TupleView
derived_after lines streams stream = flat_map (given_after streams) (filter (λ born. born.line.out == stream) lines)

-- the streams with each derived stream, made in this order: what its lines give after their births over the streams before it
abbrev pub completed_after : List BornLine → List ℕ → Streams → Streams
completed_after lines [] streams = streams
completed_after lines (stream ∷ order) streams = completed_after lines order (with_stream streams stream (derived_after lines streams stream))
