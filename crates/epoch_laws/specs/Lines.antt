-- One epoch along lines: what flows out of each state comes from the instances that waited before it.
use Rattle.std.specs.Prelude.{List, map}
use Rattle.event_types.specs.Tuple.{TupleView}
use Rattle.instances.specs.declared.instance.Instance.{Instance}
use Rattle.semantics.specs.Denotation.{Streams}
use Rattle.automaton.specs.Prefixes.{Prefix, Root, After, path}
use Rattle.epoch_laws.specs.Births.{passing_after}
use Rattle.epoch_laws.specs.BornLines.{BornLine}
use Rattle.epoch_laws.specs.Epochs.{took}
use Rattle.epoch_laws.specs.InstanceFlow.{waiting_instances}
use Rattle.epoch_laws.specs.Instances.{begins}

-- what flows out of the state of a prefix in an epoch: `now` has the epoch's tuples of each stream, `earlier` those of the times before it
abbrev pub flow_now : Streams → Streams → Prefix → List Instance
flow_now now earlier (Root stream) = map begins (now stream)
flow_now now earlier (After prefix hop) = took hop.wait.choose hop.wait.fold (now hop.wait.stream) (waiting_instances earlier prefix hop)

-- what a line gives in an epoch after its birth
abbrev pub given_now : Streams → Streams → BornLine → List TupleView
given_now now earlier born = passing_after born.line.last born.birth (flow_now now earlier (path born.line))
